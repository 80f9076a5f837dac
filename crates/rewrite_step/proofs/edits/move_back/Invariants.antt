use Rattle.std.proofs.Common.{◌≡◌, ◌++◌, length, reverse}
use Rattle.rewrite_step.proofs.edits.move_back.Given as goal

abbrev pub invariant-loop-row : goal.invariant-loop-row
invariant-loop-row l = l.rows ++ reverse l.turned ≡ l.initial.rows ++ reverse l.initial.turned

abbrev pub decreases-loop-row : goal.decreases-loop-row
decreases-loop-row l = length l.turned
