use Rattle.std.proofs.Common.{map}
use Rattle.pdll_patterns.specs.View.{pattern_of}
use Rattle.greedy_driver.specs.Found.{BestOf}
use Rattle.greedy_driver.proofs.next.best.Given as goal

abbrev pub invariant-loop-at : goal.invariant-loop-at
invariant-loop-at l = BestOf (map pattern_of l.patterns) l.rows l.id l.at l.found
