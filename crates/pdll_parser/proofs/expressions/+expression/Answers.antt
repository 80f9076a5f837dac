use Rattle.std.proofs.Common.{arith}
use Rattle.std.proofs.lemmas.Grind.{common_steps}
use Rattle.pdll_parser.specs.Input.{separated}
use Rattle.pdll_parser.specs.Expressions.{expression, reference, an_entry, room_of}
use Rattle.pdll_parser.proofs.Turns.{one_more}
use Rattle.pdll_parser.proofs.expressions.+expression.Goals as goal

pub expression_items-loop-turn-preserved : goal.expression_items-loop-turn-preserved
unfolding separated
expression_items-loop-turn-preserved t c =
    let e = one_more (λ n. separated (expression (room_of c.args.depth)) n c.loop-turn.found c.loop-turn.reader) _ c.loop-turn._turn c.loop-turn-test.true c.loop-turn.invariant in
    grind (arith, common_steps)

pub reference_items-loop-turn-preserved : goal.reference_items-loop-turn-preserved
unfolding separated
reference_items-loop-turn-preserved t c =
    let e = one_more (λ n. separated (reference (room_of c.args.depth)) n c.loop-turn.found c.loop-turn.reader) _ c.loop-turn._turn c.loop-turn-test.true c.loop-turn.invariant in
    grind (arith, common_steps)

pub entry_items-loop-turn-preserved : goal.entry_items-loop-turn-preserved
unfolding separated
entry_items-loop-turn-preserved t c =
    let e = one_more (λ n. separated (an_entry (expression (room_of c.args.depth))) n c.loop-turn.found c.loop-turn.reader) _ c.loop-turn._turn c.loop-turn-test.true c.loop-turn.invariant in
    grind (arith, common_steps)
