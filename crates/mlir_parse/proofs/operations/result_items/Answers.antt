use Rattle.std.proofs.Common.{rules, arith}
use Rattle.std.proofs.lemmas.Grind.{common_steps}
use Rattle.mlir_lexer.specs.declared.token.TokenKind.TheVariants.{Comma}
use Rattle.mlir_attributes.specs.Input.{separated}
use Rattle.mlir_parse.specs.Operations.{a_result}
use Rattle.mlir_attributes.proofs.Steps.{one_more, no_more}
use Rattle.mlir_parse.proofs.operations.result_items.Goals as goal

pub returns-in_err-a_result : goal.returns-in_err-a_result
unfolding separated
returns-in_err-a_result c =
    let e = one_more (λ n. separated Comma a_result n c.loop-turn.found c.loop-turn.reader) _ c.loop-turn._turn c.loop-turn-test.true c.loop-turn.invariant in
    first_of (search rules, grind (arith, common_steps))

pub returns-then-not-eat : goal.returns-then-not-eat
unfolding separated
returns-then-not-eat c =
    let e = one_more (λ n. separated Comma a_result n c.loop-turn.found c.loop-turn.reader) _ c.loop-turn._turn c.loop-turn-test.true c.loop-turn.invariant in
    first_of (search rules, grind (arith, common_steps))

pub loop-turn-preserved : goal.loop-turn-preserved
unfolding separated
loop-turn-preserved c =
    let e = one_more (λ n. separated Comma a_result n c.loop-turn.found c.loop-turn.reader) _ c.loop-turn._turn c.loop-turn-test.true c.loop-turn.invariant in
    first_of (search rules, grind (arith, common_steps))

pub returns : goal.returns
unfolding separated
returns c =
    let e = no_more (λ n. separated Comma a_result n c.loop-turn.found c.loop-turn.reader) _ c.loop-turn._turn c.loop-turn-test.false c.loop-turn.invariant in
    first_of (search rules, grind (arith, common_steps))
