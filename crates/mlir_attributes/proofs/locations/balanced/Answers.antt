use Rattle.std.proofs.Common.{rules, arith}
use Rattle.std.proofs.lemmas.Grind.{common_steps}
use Rattle.mlir_attributes.specs.Steps.{balanced}
use Rattle.mlir_attributes.proofs.Steps.{one_more}
use Rattle.mlir_attributes.proofs.locations.balanced.Goals as goal

pub returns-in_default-string_end-clause-end : goal.returns-in_default-string_end-clause-end
unfolding balanced
returns-in_default-string_end-clause-end c =
    let e = one_more (λ n. balanced n c.args.bytes.now c.args.room c.loop-turn.depth c.loop-turn.at) _ c.loop-turn._turn c.loop-turn-test.true c.loop-turn.invariant.0 in
    first_of (search rules, grind (arith, common_steps))

pub returns-in-40-clause-end : goal.returns-in-40-clause-end
unfolding balanced
returns-in-40-clause-end c =
    let e = one_more (λ n. balanced n c.args.bytes.now c.args.room c.loop-turn.depth c.loop-turn.at) _ c.loop-turn._turn c.loop-turn-test.true c.loop-turn.invariant.0 in
    first_of (search rules, grind (arith, common_steps))

pub loop-turn-preserved : goal.loop-turn-preserved
unfolding balanced
loop-turn-preserved c =
    let e = one_more (λ n. balanced n c.args.bytes.now c.args.room c.loop-turn.depth c.loop-turn.at) _ c.loop-turn._turn c.loop-turn-test.true c.loop-turn.invariant.0 in
    first_of (search rules, grind (arith, common_steps))
