use Rattle.std.proofs.Common.{◌≡◌, ◌≢◌, [], ◌∷◌, refl, true, ap, sym, subst, ◌∙◌, map, inl, inr, string_bytes}
use Rattle.clap.specs.Kinds.{Kinds, HasKind}
use Rattle.clap.specs.Words.{kind_of, HasMatchesOf}
use Rattle.clap.specs.Faults.{fault_of, is_simple_and_free}
use Rattle.clap.specs.declared.error.Error.{Error}
use Rattle.clap.specs.declared.error.kind.ErrorKind.TheVariants as kind
use Rattle.command_line.specs.App.{the_app}
use Rattle.command_line.proofs.simple.matches.Goals as goal

simple : is_simple_and_free the_app ≡ true
simple = refl

some_kind : (kinds : Kinds) (e : Error) → HasKind kinds e → kind_of e ≢ kind.OutOfMemory → kinds ≢ []
some_kind [] e (inl h) other = λ _. other h
some_kind [] e (inr h) other = absurd h
some_kind (k ∷ ks) e h other = λ same. cc

pub returns-in-Ok-try_get_matches_from-clause-taken : goal.returns-in-Ok-try_get_matches_from-clause-taken
returns-in-Ok-try_get_matches_from-clause-taken c =
    ap (λ a. fault_of a (map string_bytes c.args.words.now)) (sym c.in-Ok.ensures)
    ∙ c.in-Ok-try_get_matches_from.ensures.kinds (ap is_simple_and_free c.in-Ok.ensures ∙ simple)

pub returns-in-Ok-try_get_matches_from-clause-value : goal.returns-in-Ok-try_get_matches_from-clause-value
returns-in-Ok-try_get_matches_from-clause-value c =
    subst (λ a. HasMatchesOf a (map string_bytes c.args.words.now) c.in-Ok-try_get_matches_from.matches) c.in-Ok.ensures
    c.in-Ok-try_get_matches_from.ensures.matches
