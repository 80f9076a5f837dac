use Rattle.std.proofs.Common.{ap, ◌∙◌, arith}
use Rattle.pdll_syntax.specs.ExprTree.{refs}
use Rattle.rewrite_model.specs.Size as spec
use Rattle.pdll_sizes.specs.Capped.{capped_size}
use Rattle.pdll_sizes.proofs.Sums.{total_more, total_all}
use Rattle.pdll_sizes.proofs.Totals.{params_total}
use Rattle.pdll_sizes.proofs.declarations.params_size.Goals as goal

pub loop-param-preserved : goal.loop-param-preserved
loop-param-preserved c =
    let d = spec.sizes c.args.earlier.now in
    let own = c.refs_size.ensures ∙ ap (λ rs. capped_size (spec.refs_size d (refs rs))) c.as_slice.ensures in
    total_more (λ p. spec.refs_size d (refs p.refs)) c.args.params.now c.loop-param.param-index c.param-item.result _ _ _ (omega arith) c.param-item.is c.loop-param.invariant own c.and-size.ensures

pub returns : goal.returns
returns c =
    let d = spec.sizes c.args.earlier.now in
    let all = c.args.params.now in
    total_all (λ p. spec.refs_size d (refs p.refs)) all c.loop-param.param-index c.loop-param.size _ c.loop-param-test.false c.loop-param.auto.param-index-end c.loop-param.invariant (params_total d all)
