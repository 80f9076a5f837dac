use Rattle.std.proofs.Common.{◌≡◌, length, arith}
use Rattle.std.proofs.lemmas.Bool.Decides.{nat_tests}
use Rattle.mlir_print.proofs.Printing.{prints_then, prints_as, prints_none}
use Rattle.mlir_print.proofs.Parts.{label_some, label_none}
use Rattle.mlir_print.proofs.module.put_label.Goals as goal

pub returns : goal.returns
returns g c =
    prints_as _ _ _ _ _ _
    (prints_then _ _ _ _ _ _ _ _ c.put_indent.ensures (prints_then _ _ _ _ _ _ _ _ c.put.ensures (prints_then _ _ _ _ _ _ _ _ c.put_arguments.ensures c.put-2.ensures)))
    (label_some c.args.rows.now c.args.depth c.args.id c.args.region c.args.arguments.now (grind (arith, nat_tests)))

pub returns-then-is_empty : goal.returns-then-is_empty
returns-then-is_empty g c =
    let none : length c.args.arguments.now ≡ 0 = grind (arith, nat_tests) in
    prints_as _ _ _ _ _ _ (prints_none _ _) (label_none c.args.rows.now c.args.depth c.args.id c.args.region c.args.arguments.now none)
