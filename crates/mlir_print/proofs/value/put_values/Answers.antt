use Rattle.mlir_tree.specs.declared.value.Val.TheVariants.{Res}
use Rattle.mlir_print.specs.ModuleText.{value_text}
use Rattle.mlir_print.proofs.Printing.{prints_then, prints_as}
use Rattle.mlir_print.proofs.Parts.{listed_more}
use Rattle.mlir_print.proofs.value.put_values.Goals as goal

pub loop-i-preserved : goal.loop-i-preserved
loop-i-preserved g c = λ is s more.
    c.loop-i.invariant is s (prints_as _ is _ s _ _
    (prints_then _ _ is _ _ s _ _ c.put_separator.ensures (prints_then _ _ is _ _ s _ _ c.put_value.ensures more))
    (listed_more (value_text c.args.rows.now) c.args.values.now c.loop-i.i (Res 0 0) c.loop-i-test.true))
