use Rattle.std.proofs.Common.{nat_eq, ◌≡◌, ◌≤◌, ◌-◌, length, drop}
use Rattle.pdll_syntax.specs.Equal.{list_eq}
use Rattle.pdll_syntax.proofs.expr.same_members.Given as goal

abbrev pub invariant-loop-at : goal.invariant-loop-at
invariant-loop-at l = (l.at ≤ length l.a) × (l.at ≤ length l.b) × (list_eq nat_eq (drop l.at l.a) (drop l.at l.b) ≡ list_eq nat_eq l.a l.b)

abbrev pub decreases-loop-at : goal.decreases-loop-at
decreases-loop-at l = length l.a - l.at
