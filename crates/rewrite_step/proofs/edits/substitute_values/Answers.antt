use Rattle.std.proofs.Common.{◌<◌, List, length, get_or, ap, ◌∙◌, arith}
use Rattle.mlir_tree.specs.declared.value.Val.{Val}
use Rattle.mlir_tree.specs.declared.value.Val.TheVariants.{Res}
use Rattle.mlir_tree.specs.Edits.{substitute}
use Rattle.rewrite_step.proofs.Moving.{changed_one}
use Rattle.rewrite_step.proofs.edits.substitute_values.Goals as goal

pub loop-at-preserved : goal.loop-at-preserved
loop-at-preserved c =
    let f : Val → Val = substitute c.args.from.now c.args.to.now in
    let h : c.loop-at.at < length c.args.values.now = omega (arith, c.loop-at-test.true, c.len-at-end.ensures) in
    changed_one f c.args.values.now c.loop-at.values c.set.new.self c.loop-at.at (Res 0 0) c.substitute_of-value.result h c.loop-at.invariant
    (c.substitute_of-value.ensures ∙ ap (λ (l : List Val). f (get_or l c.loop-at.at (Res 0 0))) c.as_slice-all.ensures) c.set.ensures
