use Rattle.std.proofs.Common.{◌≡◌, ◌++◌, [], true, codes, decimal, cond, length, sym, ap, arith}
use Rattle.std.specs.Prelude.{nat_lt}
use Rattle.std.proofs.lemmas.Bool.Decides.{nat_tests}
use Rattle.mlir_print.specs.Numbering.{result_number}
use Rattle.mlir_print.specs.ModuleText.{group_text, results_text}
use Rattle.mlir_print.proofs.Printing.{prints_then, prints_as}
use Rattle.mlir_print.proofs.row.put_defined.Goals as goal

pub returns-then-len-gt0 : goal.returns-then-len-gt0
unfolding results_text
returns-then-len-gt0 g c =
    let r = c.args.row.now in
    let some : nat_lt 0 (length r.results) ≡ true = grind (arith, nat_tests) in
    let counted = prints_as _ _ _ _ _ _ c.put_count.ensures (ap decimal c.result_number.ensures) in
    prints_as _ _ _ _ _ _
    (prints_then _ _ _ _ _ _ _ _ c.put.ensures (prints_then _ _ _ _ _ _ _ _ counted (prints_then _ _ _ _ _ _ _ _ c.put_group.ensures c.put-then-len-gt0.ensures)))
    (ap (λ b. cond b (codes "%" ++ (decimal (result_number c.args.rows.now r.id) ++ (group_text r ++ codes " = "))) []) (sym some))
