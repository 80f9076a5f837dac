use Rattle.run_log.specs.Cursor.{size}
use Rattle.run_log.specs.Walk.{WalksTo}
use Rattle.run_log.proofs.whole.steps.Given as goal

abbrev pub invariant-loop-cursor : goal.invariant-loop-cursor
invariant-loop-cursor l = WalksTo l.fn.cursor l.cursor l.taken

abbrev pub decreases-loop-cursor : goal.decreases-loop-cursor
decreases-loop-cursor l = size l.cursor
