use Rattle.std.proofs.Common.{rules, arith}
use Rattle.std.proofs.lemmas.Grind.{common_steps}
use Rattle.mlir_attributes.specs.Input.{separated}
use Rattle.mlir_attributes.specs.Types.{ty}
use Rattle.mlir_lexer.specs.declared.token.TokenKind.TheVariants.{Comma}
use Rattle.mlir_attributes.proofs.Steps.{one_more, no_more}
use Rattle.mlir_attributes.proofs.types.+ty.Goals as goal

pub ty_items-returns-in_err-ty : goal.ty_items-returns-in_err-ty
unfolding separated
ty_items-returns-in_err-ty t c =
    let e = one_more (λ n. separated Comma (ty c.args.aliases.now c.args.room) n c.loop-turn.found c.loop-turn.reader) _ c.loop-turn._turn c.loop-turn-test.true c.loop-turn.invariant in
    first_of (search rules, grind (arith, common_steps))

pub ty_items-returns-then-not-eat : goal.ty_items-returns-then-not-eat
unfolding separated
ty_items-returns-then-not-eat t c =
    let e = one_more (λ n. separated Comma (ty c.args.aliases.now c.args.room) n c.loop-turn.found c.loop-turn.reader) _ c.loop-turn._turn c.loop-turn-test.true c.loop-turn.invariant in
    first_of (search rules, grind (arith, common_steps))

pub ty_items-loop-turn-preserved : goal.ty_items-loop-turn-preserved
unfolding separated
ty_items-loop-turn-preserved t c =
    let e = one_more (λ n. separated Comma (ty c.args.aliases.now c.args.room) n c.loop-turn.found c.loop-turn.reader) _ c.loop-turn._turn c.loop-turn-test.true c.loop-turn.invariant in
    first_of (search rules, grind (arith, common_steps))

pub ty_items-returns : goal.ty_items-returns
unfolding separated
ty_items-returns t c =
    let e = no_more (λ n. separated Comma (ty c.args.aliases.now c.args.room) n c.loop-turn.found c.loop-turn.reader) _ c.loop-turn._turn c.loop-turn-test.false c.loop-turn.invariant in
    first_of (search rules, grind (arith, common_steps))
