use Rattle.std.proofs.Common.{◌≡◌, length, arith}
use Rattle.std.proofs.lemmas.Bool.Decides.{nat_tests}
use Rattle.mlir_print.proofs.Printing.{prints_then, prints_as, prints_none}
use Rattle.mlir_print.proofs.Parts.{properties_some, properties_none}
use Rattle.mlir_print.proofs.row.put_properties.Goals as goal

pub returns : goal.returns
returns g c =
    prints_as _ _ _ _ _ _
    (prints_then _ _ _ _ _ _ _ _ c.put.ensures (prints_then _ _ _ _ _ _ _ _ c.put_entries.ensures c.put-2.ensures))
    (properties_some c.args.properties.now (grind (arith, nat_tests)))

pub returns-then-is_empty : goal.returns-then-is_empty
returns-then-is_empty g c =
    let none : length c.args.properties.now ≡ 0 = grind (arith, nat_tests) in
    prints_as _ _ _ _ _ _ (prints_none _ _) (properties_none c.args.properties.now none)
