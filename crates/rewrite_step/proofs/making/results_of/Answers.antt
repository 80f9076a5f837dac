use Rattle.std.proofs.Common.{ap, sym, ◌∙◌, ◌++◌, ◌∷◌, [], arith}
use Rattle.std.proofs.lemmas.List.FromFn.{map-range_with_len_more}
use Rattle.mlir_tree.specs.declared.value.Val.TheVariants.{Res}
use Rattle.rewrite_step.proofs.making.results_of.Goals as goal

pub loop-k-preserved : goal.loop-k-preserved
loop-k-preserved c =
    c.in_ok-push.ensures.ok ∙ (ap (λ l. l ++ Res c.args.row.now.id c.loop-k.k ∷ []) c.loop-k.invariant
    ∙ sym (map-range_with_len_more (λ n. Res c.args.row.now.id n) 0 c.loop-k.k c.loop-k.k (omega arith)))
