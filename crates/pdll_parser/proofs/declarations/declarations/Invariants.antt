use Rattle.std.proofs.Common.{◌≡◌, ◌-◌, ◌≤◌}
use Rattle.pdll_parser.specs.Input.{many}
use Rattle.pdll_parser.specs.Files.{declaration, declarations, patterns_in}
use Rattle.pdll_parser.specs.declared.terminal.Terminal.TheVariants.{End}
use Rattle.pdll_parser.proofs.declarations.declarations.Given as goal

abbrev pub invariant-loop-turn : goal.invariant-loop-turn
invariant-loop-turn l =
    (declarations l.fn.reader ≡ many End (λ before. declaration (patterns_in before)) (l._turn-end - l._turn) l.found l.reader)
    × (l.patterns ≡ patterns_in l.found) × (l.patterns ≤ l._turn)
