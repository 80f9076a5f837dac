use Rattle.std.proofs.Common.{◌++◌, cond, ap}
use Rattle.mlir_print.specs.Text.{bit_text, number_text, colon_type_text}
use Rattle.mlir_print.proofs.Printing.{prints_then, prints_as}
use Rattle.mlir_print.proofs.attr.put_int.Goals as goal

pub returns : goal.returns
returns g c =
    let n = c.args.number in
    prints_as _ _ _ _ _ _ (prints_then _ _ _ _ _ _ _ _ c.put_signed.ensures c.put_colon_ty.ensures)
    (ap (λ b. cond b (bit_text n) (number_text n ++ colon_type_text c.args.ty.now)) c.if-is_bit.ensures)
