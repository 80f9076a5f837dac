use Rattle.std.proofs.Common.{arith}
use Rattle.std.proofs.lemmas.Grind.{common_steps}
use Rattle.pdll_parser.specs.Input.{separated}
use Rattle.pdll_parser.specs.Files.{a_meta}
use Rattle.pdll_parser.proofs.Turns.{one_more}
use Rattle.pdll_parser.proofs.declarations.meta_items.Goals as goal

pub loop-turn-preserved : goal.loop-turn-preserved
unfolding separated
loop-turn-preserved c =
    let e = one_more (λ n. separated a_meta n c.loop-turn.found c.loop-turn.reader) _ c.loop-turn._turn c.loop-turn-test.true c.loop-turn.invariant in
    grind (arith, common_steps)
