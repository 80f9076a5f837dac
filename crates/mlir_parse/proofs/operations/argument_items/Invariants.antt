use Rattle.std.proofs.Common.{◌≡◌, ◌-◌}
use Rattle.mlir_attributes.specs.Steps.{counted, counted_items}
use Rattle.mlir_parse.specs.Operations.{argument}
use Rattle.mlir_parse.proofs.operations.argument_items.Given as goal

abbrev pub invariant-loop-turn : goal.invariant-loop-turn
invariant-loop-turn l = counted_items (argument l.aliases l.room) l.fn.reader ≡ counted (argument l.aliases l.room) (l._turn-end - l._turn) l.found l.reader
