-- The segments of the operands of a row (MLIR's operation definitions, "AttrSizedOperandSegments").
use Rattle.std.specs.Prelude.{List, Option, option_and_then, codes}
use Rattle.mlir_tree.specs.declared.row.Row.{Row}
use Rattle.mlir_tree.specs.declared.value.Val.{Val}
use Rattle.mlir_tree.specs.Edits.{attribute_of}
use Rattle.segment_sizes.specs.Segments.{segments}

-- By the sizes that the row's attribute `operandSegmentSizes` spells, where they are the number of its operands in all.
abbrev pub segments_of : Row → Option (List (List Val))
segments_of r = option_and_then (λ a. segments a r.operands) (attribute_of r (codes "operandSegmentSizes"))
