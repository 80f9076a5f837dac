use Rattle.std.proofs.Common.{◌≡◌, map, Some, option_map, subst}
use Rattle.std.specs.Prelude.{option_and_then, option_copied}
use Rattle.rewrite_model.specs.Things.{joined, types_in, types_denoted}
use Rattle.pdll_expand.specs.View.{expr_of}
use Rattle.row_matcher.specs.View.{thing_of, seen_of}
use Rattle.row_matcher.specs.Behind.{Leaves}
use Rattle.row_matcher.proofs.Fitting.{part_at, iff_on}
use Rattle.row_matcher.proofs.matching.parts.has_types.Goals as goal

pub loop-e-preserved : goal.loop-e-preserved
loop-e-preserved c =
    let f = types_denoted c.args.rows.now (map thing_of c.args.given.now) in
    let rest = c.loop-e.rest.now in
    let more = c.in-Some.more.now in
    let left = subst (λ r. Leaves (option_and_then types_in (option_map seen_of c.denoted.result)) rest (option_copied r)) c.in-Some.is c.behind_type_part.ensures in
    let joins = subst (λ o. joined (option_and_then types_in o) (Some more) ≡ Some rest) c.denoted.ensures left in
    iff_on c.loop-e.invariant (part_at f expr_of c.args.exprs.now c.loop-e.e-index _ rest more c.loop-e-test.true joins)
