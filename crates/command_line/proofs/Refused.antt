-- Words that the simple command refuses are no command.
use Rattle.std.proofs.Common.{◌≡◌, ◌≢◌, List, [], ◌∷◌, None, Result, Err, refl}
use Rattle.clap.specs.Kinds.{Kinds}
use Rattle.clap.specs.Walk.{Row}
use Rattle.command_line.specs.Command.{taken_by}
use Rattle.command_line.specs.declared.rewriting.Failure.{Failure}

pub refused : (ks : Kinds) (rows : List Row) → ks ≢ [] → taken_by ks rows ≡ None
refused [] rows h = elim (h refl) [ ]
refused (k ∷ ks) rows h = refl

failure_is : {A : Type 0} (f g : Failure) → ◌≡◌ {A = Result A Failure} (Err f) (Err g) → f ≡ g
failure_is f g e = cc

pub same_failure : {A B : Type 0} (f g : Failure) → ◌≡◌ {A = Result A Failure} (Err f) (Err g) → ◌≡◌ {A = Result B Failure} (Err f) (Err g)
same_failure {A} {B} f g e = λ i. Err (failure_is {A = A} f g e i)
