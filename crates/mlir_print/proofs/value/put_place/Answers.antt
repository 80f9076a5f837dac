use Rattle.std.proofs.Common.{◌++◌, [], codes, decimal, cond, ap}
use Rattle.mlir_print.proofs.Printing.{prints_then, prints_as}
use Rattle.mlir_print.proofs.value.put_place.Goals as goal

pub returns-then-is_group : goal.returns-then-is_group
returns-then-is_group g c =
    let counted = prints_as _ _ _ _ _ _ c.put_count.ensures (ap decimal c.from.ensures) in
    prints_as _ _ _ _ _ _ (prints_then _ _ _ _ _ _ _ _ c.put.ensures counted) (ap (λ b. cond b (codes "#" ++ decimal c.args.place) []) c.if-is_group.ensures)
