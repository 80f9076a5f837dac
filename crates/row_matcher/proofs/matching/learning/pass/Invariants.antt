use Rattle.std.proofs.Common.{◌≡◌, ◌≤◌, drop, map, length}
use Rattle.pdll_expand.specs.View.{demand_of}
use Rattle.row_matcher.specs.Learning.{known_of, passed}
use Rattle.row_matcher.proofs.matching.learning.pass.Given as goal

abbrev pub invariant-loop-at : goal.invariant-loop-at
invariant-loop-at l = record {
  known : known_of l.known ≡ passed l.rows l.kinds (map demand_of (drop l.at l.demands)) (known_of l.fn.known);
  within : l.at ≤ length l.demands;
}

abbrev pub decreases-loop-at : goal.decreases-loop-at
decreases-loop-at l = l.at
