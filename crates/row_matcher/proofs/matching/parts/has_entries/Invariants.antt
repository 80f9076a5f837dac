use Rattle.std.proofs.Common.{drop, map}
use Rattle.std.specs.Prelude.{◌↔◌}
use Rattle.std.specs.List.{AllByRecursion}
use Rattle.rewrite_model.specs.Holding.{HasEntry}
use Rattle.pdll_expand.specs.View.{named_expr_of}
use Rattle.row_matcher.specs.View.{thing_of}
use Rattle.row_matcher.proofs.matching.parts.has_entries.Given as goal

abbrev pub invariant-loop-e : goal.invariant-loop-e
invariant-loop-e l =
    AllByRecursion (HasEntry l.rows (map thing_of l.given) l.r) (map named_expr_of l.entries)
    ↔ AllByRecursion (HasEntry l.rows (map thing_of l.given) l.r) (map named_expr_of (drop l.e-index l.entries))
