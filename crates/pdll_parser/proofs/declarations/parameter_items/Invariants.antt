use Rattle.std.proofs.Common.{◌≡◌, ◌-◌}
use Rattle.pdll_parser.specs.Input.{items, separated}
use Rattle.pdll_parser.specs.Expressions.{references, room_of}
use Rattle.pdll_parser.specs.Files.{a_parameter}
use Rattle.pdll_parser.proofs.declarations.parameter_items.Given as goal

abbrev pub invariant-loop-turn : goal.invariant-loop-turn
invariant-loop-turn l = items (a_parameter (references (room_of l.depth))) l.fn.reader ≡ separated (a_parameter (references (room_of l.depth))) (l._turn-end - l._turn) l.found l.reader
