use Rattle.mlir_print.proofs.Printing.{prints_then}
use Rattle.mlir_print.proofs.attr.put_colon_ty.Goals as goal

pub returns : goal.returns
returns g c = prints_then _ _ _ _ _ _ _ _ c.put.ensures c.put_ty.ensures
