use Rattle.std.proofs.Common.{◌≡◌, ℕ, false, length}
use Rattle.rewrite_step.specs.Marking.{is_marked}
use Rattle.rewrite_step.proofs.step.no_marks.Given as goal

abbrev pub invariant-loop : goal.invariant-loop
invariant-loop l = record { long : length l.marks ≡ l.counter; none : (k : ℕ) → is_marked l.marks k ≡ false }
