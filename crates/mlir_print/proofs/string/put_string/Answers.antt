use Rattle.mlir_print.specs.Text.{string_text}
use Rattle.mlir_print.proofs.Printing.{prints_then}
use Rattle.mlir_print.proofs.string.put_string.Goals as goal

pub returns : goal.returns
unfolding string_text
returns g c = prints_then _ _ _ _ _ _ _ _ c.put.ensures (prints_then _ _ _ _ _ _ _ _ c.put_bytes.ensures c.put-2.ensures)
