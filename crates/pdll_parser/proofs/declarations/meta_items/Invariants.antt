use Rattle.std.proofs.Common.{◌≡◌, ◌-◌}
use Rattle.pdll_parser.specs.Input.{items, separated}
use Rattle.pdll_parser.specs.Files.{a_meta}
use Rattle.pdll_parser.proofs.declarations.meta_items.Given as goal

abbrev pub invariant-loop-turn : goal.invariant-loop-turn
invariant-loop-turn l = items a_meta l.fn.reader ≡ separated a_meta (l._turn-end - l._turn) l.found l.reader
