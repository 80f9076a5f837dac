use Rattle.std.proofs.Common.{◌++◌, codes, ap}
use Rattle.mlir_print.specs.ModuleText.{attributes_text, function_text, tail_text}
use Rattle.mlir_print.proofs.Printing.{prints_then, prints_as}
use Rattle.mlir_print.proofs.row.put_tail.Goals as goal

pub returns : goal.returns
unfolding tail_text
returns g c =
    prints_as _ _ _ _ _ _
    (prints_then _ _ _ _ _ _ _ _ c.put_attributes.ensures (prints_then _ _ _ _ _ _ _ _ c.put.ensures (prints_then _ _ _ _ _ _ _ _ c.put_function.ensures c.put-2.ensures)))
    (ap (λ es. attributes_text es ++ (codes " : " ++ (function_text c.args.rows.now c.args.row.now ++ codes "\n"))) c.as_slice.ensures)
