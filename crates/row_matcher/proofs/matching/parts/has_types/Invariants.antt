use Rattle.std.proofs.Common.{◌≡◌, drop, map, Some}
use Rattle.std.specs.Prelude.{◌↔◌}
use Rattle.rewrite_model.specs.Things.{concatenated, types_denoted}
use Rattle.pdll_expand.specs.View.{expr_of}
use Rattle.row_matcher.specs.View.{thing_of}
use Rattle.row_matcher.proofs.matching.parts.has_types.Given as goal

abbrev pub invariant-loop-e : goal.invariant-loop-e
invariant-loop-e l =
    (concatenated (types_denoted l.rows (map thing_of l.given)) (map expr_of l.exprs) ≡ Some l.all)
    ↔ (concatenated (types_denoted l.rows (map thing_of l.given)) (map expr_of (drop l.e-index l.exprs)) ≡ Some l.rest)
