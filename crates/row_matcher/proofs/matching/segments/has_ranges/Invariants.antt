use Rattle.std.proofs.Common.{◌≡◌, ◌+◌, cond, drop, map}
use Rattle.rewrite_model.specs.Ranges.{ranges}
use Rattle.pdll_expand.specs.View.{expr_of}
use Rattle.row_matcher.proofs.matching.segments.has_ranges.Given as goal

abbrev pub invariant-loop-e : goal.invariant-loop-e
invariant-loop-e l = ranges l.kinds (map expr_of l.exprs) ≡ cond l.one 1 0 + ranges l.kinds (map expr_of (drop l.e-index l.exprs))
