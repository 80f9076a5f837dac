use Rattle.std.proofs.Common.{ℕ, List, ◌++◌, take, drop, Some, ap, ◌∙◌}
use Rattle.mlir_tree.specs.declared.row.Row.{Row}
use Rattle.mlir_tree.specs.declared.rows.Rows.{Rows}
use Rattle.mlir_tree.specs.Edits.{place_before, put_before, inserted}
use Rattle.rewrite_step.proofs.edits.insert.Goals as goal

pub returns : goal.returns
unfolding inserted put_before
returns c =
    let old = c.args.rows.now in
    let at = c.place_before-at.ensures.place ∙ ap (place_before (Some c.args.other)) c.as_slice.ensures in
    let one = c.in_ok-one.ensures in
    let rows = c.in_ok-put_back.ensures.rows ∙ (λ i. take (at i) old.rows ++ (one i ++ drop (at i) old.rows)) in
    let built : List Row → ℕ → Rows = λ rs n. record { rows = rs; next = n } in
    λ i. built (rows i) (c.in_ok-next.ensures i)
