use Rattle.std.proofs.Common.{map}
use Rattle.std.specs.Prelude.{take}
use Rattle.rewrite_model.specs.Running.{NoneAmong}
use Rattle.pdll_patterns.specs.View.{pattern_of}
use Rattle.greedy_driver.proofs.next.first.Given as goal

abbrev pub invariant-loop-row : goal.invariant-loop-row
invariant-loop-row l = NoneAmong (map pattern_of l.patterns) l.rows (take l.row-index l.rows)
