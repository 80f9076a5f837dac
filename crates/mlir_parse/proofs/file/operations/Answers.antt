use Rattle.std.proofs.Common.{rules, arith}
use Rattle.std.proofs.lemmas.Grind.{common_steps}
use Rattle.mlir_parse.specs.ModuleFile.{file_operations}
use Rattle.mlir_attributes.proofs.Steps.{one_more}
use Rattle.mlir_parse.proofs.file.operations.Goals as goal

pub loop-turn-preserved : goal.loop-turn-preserved
unfolding file_operations
loop-turn-preserved c =
    let e = one_more (λ n. file_operations n c.loop-turn.aliases c.loop-turn.found c.loop-turn.reader) _ c.loop-turn._turn c.loop-turn-test.true c.loop-turn.invariant in
    first_of (search rules, grind (arith, common_steps))

pub returns-in_err-alias : goal.returns-in_err-alias
unfolding file_operations
returns-in_err-alias c =
    let e = one_more (λ n. file_operations n c.loop-turn.aliases c.loop-turn.found c.loop-turn.reader) _ c.loop-turn._turn c.loop-turn-test.true c.loop-turn.invariant in
    first_of (search rules, grind (arith, common_steps))

pub returns-in_err-operation : goal.returns-in_err-operation
unfolding file_operations
returns-in_err-operation c =
    let e = one_more (λ n. file_operations n c.loop-turn.aliases c.loop-turn.found c.loop-turn.reader) _ c.loop-turn._turn c.loop-turn-test.true c.loop-turn.invariant in
    first_of (search rules, grind (arith, common_steps))
