use Rattle.std.proofs.Common.{sym, ◌∙◌}
use Rattle.mlir_attributes.specs.Complete.{body_end}
use Rattle.mlir_attributes.proofs.Steps.{one_more}
use Rattle.mlir_attributes.proofs.Turns.{body_goes_on}
use Rattle.mlir_attributes.proofs.complete.body_end.Goals as goal

pub loop-turn-preserved : goal.loop-turn-preserved
loop-turn-preserved c =
    let e = one_more (λ n. body_end n c.args.bytes.now c.loop-turn.body) _ c.loop-turn._turn c.loop-turn-test.true c.loop-turn.invariant.0 in
    let more = sym c.is_over.ensures ∙ c.if-is_over.false in
    (e ∙ body_goes_on _ c.args.bytes.now c.loop-turn.body c.body_step.new.body c.in_ok-body_step.ensures.value more, c.in_ok-body_step.ensures.within)
