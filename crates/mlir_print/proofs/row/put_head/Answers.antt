use Rattle.std.proofs.Common.{◌++◌, codes}
use Rattle.mlir_print.specs.Text.{string_text}
use Rattle.mlir_print.specs.ModuleText.{indent, results_text, listed, value_text, properties_text, head_text}
use Rattle.mlir_print.proofs.Printing.{prints_then, prints_as}
use Rattle.mlir_print.proofs.row.put_head.Goals as goal

pub returns : goal.returns
unfolding head_text
returns g c =
    let rows = c.args.rows.now in
    prints_as _ _ _ _ _ _
    (prints_then _ _ _ _ _ _ _ _ c.put_indent.ensures (prints_then _ _ _ _ _ _ _ _ c.put_defined.ensures (prints_then _ _ _ _ _ _ _ _ c.put_string.ensures
    (prints_then _ _ _ _ _ _ _ _ c.put.ensures (prints_then _ _ _ _ _ _ _ _ c.put_values.ensures (prints_then _ _ _ _ _ _ _ _ c.put-2.ensures c.put_properties.ensures))))))
    (λ i. indent c.args.depth ++ (results_text rows c.args.row.now ++ (string_text (c.as_slice.ensures i)
    ++ (codes "(" ++ (listed (value_text rows) 0 (c.as_slice-2.ensures i) ++ (codes ")" ++ properties_text (c.as_slice-3.ensures i)))))))
