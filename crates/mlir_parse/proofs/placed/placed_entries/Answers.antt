use Rattle.std.proofs.Common.{rules, arith}
use Rattle.std.proofs.lemmas.Grind.{common_steps}
use Rattle.mlir_attributes.specs.Attributes.{attr}
use Rattle.mlir_parse.specs.Entries.{placed_entries, all_placed}
use Rattle.mlir_attributes.proofs.Steps.{one_more}
use Rattle.mlir_parse.proofs.placed.placed_entries.Goals as goal

pub loop-turn-preserved : goal.loop-turn-preserved
unfolding placed_entries
loop-turn-preserved c =
    let e = one_more (λ n. placed_entries (attr c.args.aliases.now c.args.room) n (all_placed c.loop-turn.found) c.loop-turn.reader) _ c.loop-turn._turn c.loop-turn-test.true c.loop-turn.invariant in
    first_of (search rules, grind (arith, common_steps))
