use Rattle.std.proofs.Common.{◌++◌, codes}
use Rattle.mlir_tree.specs.Tree.{tys}
use Rattle.mlir_print.specs.Text.{results_by, stands_bare, tys_text}
use Rattle.mlir_print.specs.ModuleText.{listed, value_type_text, function_text}
use Rattle.mlir_print.proofs.Printing.{prints_then, prints_as}
use Rattle.mlir_print.proofs.row.put_function.Goals as goal

pub returns : goal.returns
unfolding function_text
returns g c =
    prints_as _ _ _ _ _ _
    (prints_then _ _ _ _ _ _ _ _ c.put.ensures (prints_then _ _ _ _ _ _ _ _ c.put_value_tys.ensures (prints_then _ _ _ _ _ _ _ _ c.put-2.ensures c.put_results.ensures)))
    (λ i. codes "(" ++ (listed (value_type_text c.args.rows.now) 0 (c.as_slice.ensures i)
    ++ (codes ") -> " ++ results_by (stands_bare (tys (c.as_slice-2.ensures i))) (tys_text (tys (c.as_slice-2.ensures i))))))
