use Rattle.std.proofs.Common.{◌≡◌, ◌+◌, cond, drop, map}
use Rattle.rewrite_model.specs.Ranges.{ranges}
use Rattle.rewrite_model.specs.Things.{kind_of}
use Rattle.pdll_expand.specs.View.{expr_of}
use Rattle.row_matcher.specs.View.{thing_of}
use Rattle.row_matcher.proofs.matching.segments.are_given_ranges.Given as goal

abbrev pub invariant-loop-e : goal.invariant-loop-e
invariant-loop-e l = ranges (map kind_of (map thing_of l.given)) (map expr_of l.exprs) ≡ cond l.one 1 0 + ranges (map kind_of (map thing_of l.given)) (map expr_of (drop l.e-index l.exprs))
