use Rattle.std.proofs.Common.{rules, arith}
use Rattle.std.proofs.lemmas.Grind.{common_steps}
use Rattle.std.specs.Prelude.{◌-◌}
use Rattle.mlir_lexer.specs.declared.token.TokenKind.TheVariants.{RightBrace}
use Rattle.mlir_attributes.specs.Steps.{counted, many}
use Rattle.mlir_parse.specs.Operations.{inner_operation, region, two_deeper}
use Rattle.mlir_attributes.proofs.Steps.{one_more, no_more}
use Rattle.mlir_parse.proofs.OperationSteps.{back_fails}
use Rattle.mlir_parse.proofs.operations.+operation.Goals as goal

pub inner_operations-loop-turn-preserved : goal.inner_operations-loop-turn-preserved
unfolding many
inner_operations-loop-turn-preserved t c =
    let e = one_more (λ n. many RightBrace (inner_operation c.args.aliases.now (two_deeper c.args.aliases.now c.args.room)) n c.loop-turn.found c.loop-turn.reader) _ c.loop-turn._turn c.loop-turn-test.true c.loop-turn.invariant in
    first_of (search rules, grind (arith, common_steps))

pub region_items-returns-in_err-region : goal.region_items-returns-in_err-region
unfolding counted
region_items-returns-in_err-region t c =
    let e = one_more (λ n. counted (region c.args.aliases.now (two_deeper c.args.aliases.now c.args.room) (c.args.room - 1)) n c.loop-turn.found c.loop-turn.reader) _ c.loop-turn._turn c.loop-turn-test.true c.loop-turn.invariant in
    first_of (search rules, grind (arith, common_steps))

pub region_items-returns-then-not-eat : goal.region_items-returns-then-not-eat
unfolding counted
region_items-returns-then-not-eat t c =
    let e = one_more (λ n. counted (region c.args.aliases.now (two_deeper c.args.aliases.now c.args.room) (c.args.room - 1)) n c.loop-turn.found c.loop-turn.reader) _ c.loop-turn._turn c.loop-turn-test.true c.loop-turn.invariant in
    first_of (search rules, grind (arith, common_steps))

pub region_items-loop-turn-preserved : goal.region_items-loop-turn-preserved
unfolding counted
region_items-loop-turn-preserved t c =
    let e = one_more (λ n. counted (region c.args.aliases.now (two_deeper c.args.aliases.now c.args.room) (c.args.room - 1)) n c.loop-turn.found c.loop-turn.reader) _ c.loop-turn._turn c.loop-turn-test.true c.loop-turn.invariant in
    first_of (search rules, grind (arith, common_steps))

pub region_items-returns : goal.region_items-returns
unfolding counted
region_items-returns t c =
    let e = no_more (λ n. counted (region c.args.aliases.now (two_deeper c.args.aliases.now c.args.room) (c.args.room - 1)) n c.loop-turn.found c.loop-turn.reader) _ c.loop-turn._turn c.loop-turn-test.false c.loop-turn.invariant in
    first_of (search rules, grind (arith, common_steps))

pub operation-returns-in_err-back : goal.operation-returns-in_err-back
operation-returns-in_err-back t c =
    let e = back_fails c.args.aliases.now c.args.room c.args.reader.now c.a_front.new.reader c.maybe_regions.new.reader c.in_ok-front.front c.in_ok-regions.regions c.in_err-back.field-0.0 c.in_ok-front.ensures c.in_ok-regions.ensures c.in_err-back.ensures in
    first_of (search rules, grind (arith, common_steps))
