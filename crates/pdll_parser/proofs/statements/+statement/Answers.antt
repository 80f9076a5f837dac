use Rattle.std.proofs.Common.{arith}
use Rattle.std.proofs.lemmas.Grind.{common_steps}
use Rattle.pdll_parser.specs.Input.{many}
use Rattle.pdll_parser.specs.Statements.{statement}
use Rattle.pdll_parser.specs.declared.terminal.Terminal.TheVariants.{RightBrace}
use Rattle.pdll_parser.proofs.Turns.{one_more}
use Rattle.pdll_parser.proofs.statements.+statement.Goals as goal

pub statements-loop-turn-preserved : goal.statements-loop-turn-preserved
unfolding many
statements-loop-turn-preserved t c =
    let e = one_more (λ n. many RightBrace (λ before. statement c.args.depth) n c.loop-turn.found c.loop-turn.reader) _ c.loop-turn._turn c.loop-turn-test.true c.loop-turn.invariant in
    grind (arith, common_steps)
