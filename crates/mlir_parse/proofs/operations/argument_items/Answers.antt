use Rattle.std.proofs.Common.{rules, arith}
use Rattle.std.proofs.lemmas.Grind.{common_steps}
use Rattle.mlir_attributes.specs.Steps.{counted}
use Rattle.mlir_parse.specs.Operations.{argument}
use Rattle.mlir_attributes.proofs.Steps.{one_more, no_more}
use Rattle.mlir_parse.proofs.operations.argument_items.Goals as goal

pub returns-in_err-argument : goal.returns-in_err-argument
unfolding counted
returns-in_err-argument c =
    let e = one_more (λ n. counted (argument c.args.aliases.now c.args.room) n c.loop-turn.found c.loop-turn.reader) _ c.loop-turn._turn c.loop-turn-test.true c.loop-turn.invariant in
    first_of (search rules, grind (arith, common_steps))

pub returns-then-not-eat : goal.returns-then-not-eat
unfolding counted
returns-then-not-eat c =
    let e = one_more (λ n. counted (argument c.args.aliases.now c.args.room) n c.loop-turn.found c.loop-turn.reader) _ c.loop-turn._turn c.loop-turn-test.true c.loop-turn.invariant in
    first_of (search rules, grind (arith, common_steps))

pub loop-turn-preserved : goal.loop-turn-preserved
unfolding counted
loop-turn-preserved c =
    let e = one_more (λ n. counted (argument c.args.aliases.now c.args.room) n c.loop-turn.found c.loop-turn.reader) _ c.loop-turn._turn c.loop-turn-test.true c.loop-turn.invariant in
    first_of (search rules, grind (arith, common_steps))

pub returns : goal.returns
unfolding counted
returns c =
    let e = no_more (λ n. counted (argument c.args.aliases.now c.args.room) n c.loop-turn.found c.loop-turn.reader) _ c.loop-turn._turn c.loop-turn-test.false c.loop-turn.invariant in
    first_of (search rules, grind (arith, common_steps))
