use Rattle.std.proofs.Common.{◌≡◌, ◌-◌}
use Rattle.mlir_attributes.specs.Steps.{counted, counted_items}
use Rattle.mlir_parse.specs.Operations.{a_use}
use Rattle.mlir_parse.proofs.operations.use_items.Given as goal

abbrev pub invariant-loop-turn : goal.invariant-loop-turn
invariant-loop-turn l = counted_items a_use l.fn.reader ≡ counted a_use (l._turn-end - l._turn) l.found l.reader
