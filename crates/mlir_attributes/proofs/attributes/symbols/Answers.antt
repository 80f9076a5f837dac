use Rattle.std.proofs.Common.{rules, arith}
use Rattle.std.proofs.lemmas.Grind.{common_steps}
use Rattle.mlir_lexer.specs.declared.token.TokenKind.TheVariants.{ColonColon}
use Rattle.mlir_attributes.specs.Input.{separated}
use Rattle.mlir_attributes.specs.Attributes.{symbol}
use Rattle.mlir_attributes.proofs.Steps.{one_more, no_more}
use Rattle.mlir_attributes.proofs.attributes.symbols.Goals as goal

pub returns-in_err-symbol : goal.returns-in_err-symbol
unfolding separated
returns-in_err-symbol c =
    let e = one_more (λ n. separated ColonColon symbol n c.loop-turn.found c.loop-turn.reader) _ c.loop-turn._turn c.loop-turn-test.true c.loop-turn.invariant in
    first_of (search rules, grind (arith, common_steps))

pub returns-then-not-eat : goal.returns-then-not-eat
unfolding separated
returns-then-not-eat c =
    let e = one_more (λ n. separated ColonColon symbol n c.loop-turn.found c.loop-turn.reader) _ c.loop-turn._turn c.loop-turn-test.true c.loop-turn.invariant in
    first_of (search rules, grind (arith, common_steps))

pub loop-turn-preserved : goal.loop-turn-preserved
unfolding separated
loop-turn-preserved c =
    let e = one_more (λ n. separated ColonColon symbol n c.loop-turn.found c.loop-turn.reader) _ c.loop-turn._turn c.loop-turn-test.true c.loop-turn.invariant in
    first_of (search rules, grind (arith, common_steps))

pub returns : goal.returns
unfolding separated
returns c =
    let e = no_more (λ n. separated ColonColon symbol n c.loop-turn.found c.loop-turn.reader) _ c.loop-turn._turn c.loop-turn-test.false c.loop-turn.invariant in
    first_of (search rules, grind (arith, common_steps))
