use Rattle.std.proofs.Common.{◌≡◌, ◌-◌}
use Rattle.mlir_attributes.specs.Steps.{counted, counted_items}
use Rattle.mlir_attributes.specs.Types.{ty}
use Rattle.mlir_parse.specs.Operations.{result_type}
use Rattle.mlir_parse.proofs.operations.result_type_items.Given as goal

abbrev pub invariant-loop-turn : goal.invariant-loop-turn
invariant-loop-turn l = counted_items (result_type (ty l.aliases l.room)) l.fn.reader ≡ counted (result_type (ty l.aliases l.room)) (l._turn-end - l._turn) l.found l.reader
