use Rattle.std.proofs.Common.{◌≡◌, ◌-◌, false, suc, cond, map, length}
use Rattle.pdll_expand.specs.View.{demand_of}
use Rattle.row_matcher.specs.Learning.{known_of, known_in, passed, IsReached}
use Rattle.row_matcher.proofs.matching.learning.close.Given as goal

abbrev pub invariant-loop-grows : goal.invariant-loop-grows
invariant-loop-grows l = record {
  closed : l.grows ≡ false → passed l.rows l.kinds (map demand_of l.demands) (known_of l.known) ≡ known_of l.known;
  reached : IsReached l.rows l.kinds (map demand_of l.demands) (known_of l.fn.known) (known_of l.known);
}

abbrev pub decreases-loop-grows : goal.decreases-loop-grows
decreases-loop-grows l = cond l.grows (suc (length (known_of l.known) - known_in (known_of l.known))) 0
