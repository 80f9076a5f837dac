use Rattle.std.proofs.Common.{◌≡◌, ◌++◌, [], true, codes, decimal, cond, length, sym, ap, arith}
use Rattle.std.specs.Prelude.{nat_lt}
use Rattle.std.proofs.lemmas.Bool.Decides.{nat_tests}
use Rattle.mlir_print.proofs.Printing.{prints_then, prints_as}
use Rattle.mlir_print.proofs.row.put_group.Goals as goal

pub returns-then-len-gt1 : goal.returns-then-len-gt1
returns-then-len-gt1 g c =
    let several : nat_lt 1 (length c.args.row.now.results) ≡ true = grind (arith, nat_tests) in
    let counted = prints_as _ _ _ _ _ _ c.put_count.ensures (ap decimal c.len-then-len-gt1.ensures) in
    prints_as _ _ _ _ _ _ (prints_then _ _ _ _ _ _ _ _ c.put.ensures counted) (ap (λ b. cond b (codes ":" ++ decimal (length c.args.row.now.results)) []) (sym several))
