use Rattle.std.proofs.Common.{List, ap}
use Rattle.std.proofs.lemmas.Result.{on_ok_weaker}
use Rattle.mlir_tree.specs.declared.row.Row.{Row}
use Rattle.mlir_tree.specs.declared.rows.Rows.{Rows}
use Rattle.mlir_tree.specs.Edits.{substituted}
use Rattle.rewrite_step.proofs.edits.substitute.Goals as goal

pub returns : goal.returns
unfolding substituted
returns c =
    let built : List Row → Rows = λ rs. record { rows = rs; next = c.args.rows.now.next } in
    on_ok_weaker c.substitute_rows.result (λ are. ap built are) c.substitute_rows.ensures
