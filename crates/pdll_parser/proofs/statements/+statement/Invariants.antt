use Rattle.std.proofs.Common.{◌≡◌, ◌+◌, ◌-◌, ◌*◌}
use Rattle.pdll_parser.specs.Input.{all_up_to, many}
use Rattle.pdll_parser.specs.Statements.{statement}
use Rattle.pdll_parser.specs.declared.terminal.Terminal.TheVariants.{RightBrace}
use Rattle.pdll_parser.proofs.statements.+statement.Given as goal

abbrev pub decreases-braces : goal.decreases-braces
decreases-braces l = 8 * l.depth

abbrev pub decreases-rewrite_form : goal.decreases-rewrite_form
decreases-rewrite_form l = 8 * l.depth + 1

abbrev pub decreases-statement_form : goal.decreases-statement_form
decreases-statement_form l = 8 * l.depth + 2

abbrev pub decreases-statement : goal.decreases-statement
decreases-statement l = 8 * l.depth + 3

abbrev pub decreases-statements : goal.decreases-statements
decreases-statements l = 8 * l.depth + 4

abbrev pub invariant-statements-loop-turn : goal.invariant-statements-loop-turn
invariant-statements-loop-turn l = all_up_to RightBrace (λ before. statement l.depth) l.fn.reader ≡ many RightBrace (λ before. statement l.depth) (l._turn-end - l._turn) l.found l.reader
