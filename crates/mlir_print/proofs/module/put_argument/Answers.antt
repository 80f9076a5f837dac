use Rattle.mlir_print.proofs.Printing.{prints_then}
use Rattle.mlir_print.proofs.module.put_argument.Goals as goal

pub returns : goal.returns
returns g c = prints_then _ _ _ _ _ _ _ _ c.put.ensures (prints_then _ _ _ _ _ _ _ _ c.put_number.ensures (prints_then _ _ _ _ _ _ _ _ c.put-2.ensures c.put_ty.ensures))
