use Rattle.std.proofs.Common.{◌≡◌, false, take}
use Rattle.mlir_tree.specs.Module.{has_row}
use Rattle.row_index.proofs.places.scan.Given as goal

abbrev pub invariant-loop-i : goal.invariant-loop-i
invariant-loop-i l = has_row (take l.i l.rows) l.id ≡ false
