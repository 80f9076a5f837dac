use Rattle.std.proofs.Common.{◌≡◌, ◌-◌}
use Rattle.pdll_parser.specs.Expressions.{dotted, dotted_name}
use Rattle.pdll_parser.proofs.expressions.dotted_name.Given as goal

abbrev pub invariant-loop-turn : goal.invariant-loop-turn
invariant-loop-turn l = dotted_name l.fn.reader ≡ dotted (l._turn-end - l._turn) l.found l.reader
