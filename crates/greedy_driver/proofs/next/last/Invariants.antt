use Rattle.std.proofs.Common.{◌≤◌, length, map}
use Rattle.std.specs.Prelude.{drop}
use Rattle.rewrite_model.specs.Running.{NoneAmong}
use Rattle.pdll_patterns.specs.View.{pattern_of}
use Rattle.greedy_driver.proofs.next.last.Given as goal

-- no pattern matches behind the place
abbrev pub invariant-loop-at : goal.invariant-loop-at
invariant-loop-at l = record {
  none : NoneAmong (map pattern_of l.patterns) l.rows (drop l.at l.rows);
  within : l.at ≤ length l.rows;
}

abbrev pub decreases-loop-at : goal.decreases-loop-at
decreases-loop-at l = l.at
