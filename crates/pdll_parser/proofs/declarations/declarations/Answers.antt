use Rattle.std.proofs.Common.{arith}
use Rattle.std.proofs.lemmas.Grind.{common_steps}
use Rattle.pdll_parser.specs.Input.{many}
use Rattle.pdll_parser.specs.Files.{declaration, patterns_in}
use Rattle.pdll_parser.specs.declared.terminal.Terminal.TheVariants.{End}
use Rattle.pdll_parser.proofs.Turns.{one_more}
use Rattle.pdll_parser.proofs.Counts.{counted}
use Rattle.pdll_parser.proofs.declarations.declarations.Goals as goal

pub loop-turn-preserved : goal.loop-turn-preserved
unfolding many
loop-turn-preserved c =
    let e = one_more (λ n. many End (λ before. declaration (patterns_in before)) n c.loop-turn.found c.loop-turn.reader) _ c.loop-turn._turn c.loop-turn-test.true c.loop-turn.invariant.0 in
    let more = counted c.loop-turn.found c.push.new.self c.in_ok-next.next c.loop-turn.patterns c.is_pattern-patterns.result c.loop-turn.invariant.1 c.is_pattern-patterns.ensures.value c.in_ok-push.ensures.ok in
    (grind (arith, common_steps), more, omega arith)
