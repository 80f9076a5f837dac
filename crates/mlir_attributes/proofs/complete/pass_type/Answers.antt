use Rattle.std.proofs.Common.{sym, ◌∙◌}
use Rattle.mlir_attributes.specs.Complete.{type_tokens}
use Rattle.mlir_attributes.proofs.Steps.{one_more}
use Rattle.mlir_attributes.proofs.Turns.{type_goes_on}
use Rattle.mlir_attributes.proofs.complete.pass_type.Goals as goal

pub loop-turn-preserved : goal.loop-turn-preserved
loop-turn-preserved c =
    let e = one_more (λ n. type_tokens n c.loop-turn.shape c.loop-turn.reader) _ c.loop-turn._turn c.loop-turn-test.true c.loop-turn.invariant in
    let fits = sym c.is_broken.ensures ∙ c.if-is_broken.false in
    let more = sym c.is_whole.ensures ∙ c.if-is_whole.false in
    e ∙ type_goes_on _ c.loop-turn.shape c.shape_step.new.shape c.kind.result c.loop-turn.reader c.pass_token.new.reader c.kind.ensures c.in_ok-shape_step.ensures c.in_ok-pass_token.ensures fits more
