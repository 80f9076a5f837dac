use Rattle.std.proofs.Common.{length}
use Rattle.rewrite_step.proofs.Turned.{IsMoved}
use Rattle.rewrite_step.proofs.moves.move_from.Given as goal

abbrev pub invariant-loop-rows : goal.invariant-loop-rows
invariant-loop-rows l = IsMoved l.fn.rows l.fn.moved l.rows l.moved l.at

abbrev pub decreases-loop-rows : goal.decreases-loop-rows
decreases-loop-rows l = length l.rows
