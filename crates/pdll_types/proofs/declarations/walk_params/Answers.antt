use Rattle.std.proofs.Common.{◌+◌, drop, ap, sym, ◌∙◌, arith}
use Rattle.pdll_types.specs.Mentions.{of_param, of_params}
use Rattle.pdll_types.specs.Walk.{walked}
use Rattle.pdll_types.proofs.Steps.{walked_both}
use Rattle.pdll_types.proofs.Loops.{next_item}
use Rattle.pdll_types.proofs.declarations.walk_params.Goals as goal

pub loop-param-preserved : goal.loop-param-preserved
unfolding of_params
loop-param-preserved c =
    let d = c.args.table.now in
    let p = c.args.section in
    let qs = c.args.params.now in
    let i = c.loop-param.param-index in
    let q = c.param-item.result in
    let behind = drop (i + 1) qs in
    c.loop-param.invariant
    ∙ (ap (λ rest. walked d (of_params d p rest) c.loop-param.walk) (next_item qs i q (omega arith) c.param-item.is)
    ∙ (walked_both d (of_param d p q) (of_params d p behind) c.loop-param.walk ∙ ap (walked d (of_params d p behind)) (sym c.in_ok-walk_param.ensures)))
