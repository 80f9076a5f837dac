use Rattle.std.proofs.Common.{◌≡◌, ◌<◌, ◌+◌, ℕ, Bool, List, ◌&&◌, ◌||◌, not, ap, ◌∙◌, arith}
use Rattle.std.specs.Prelude.{nat_le}
use Rattle.mlir_tree.specs.declared.row.Row.{Row}
use Rattle.mlir_tree.specs.Module.{has_row}
use Rattle.rewrite_model.specs.Step as model
use Rattle.rewrite_step.specs.Marking.{is_marked, was_removed}
use Rattle.rewrite_step.proofs.Marking.{agree}
use Rattle.rewrite_step.proofs.step.removed_numbers.Goals as goal

pub returns : goal.returns
returns c =
    let m = c.args.before.now in
    let n = c.args.after.now in
    let old : (k : ℕ) → k < n.next → is_marked c.as_slice-3.result.now k ≡ has_row m.rows k = λ k h.
    ap (λ (l : List Bool). is_marked l k) c.as_slice-3.ensures ∙ (c.in_ok-old.ensures.right k h ∙ ap (λ (rs : List Row). has_row rs k) c.as_slice.ensures) in
    let new : (k : ℕ) → k < n.next → is_marked c.as_slice-4.result.now k ≡ has_row n.rows k = λ k h.
    ap (λ (l : List Bool). is_marked l k) c.as_slice-4.ensures ∙ (c.in_ok-new.ensures.right k h ∙ ap (λ (rs : List Row). has_row rs k) c.as_slice-2.ensures) in
    let same : (k : ℕ) → k < 0 + n.next → was_removed c.as_slice-3.result.now c.as_slice-4.result.now m.next k ≡ model.was_removed m n k = λ k h.
    let below : k < n.next = omega (arith, h) in
    λ i. ((old k below i || nat_le m.next k) && not (new k below i)) in
    c.in_ok-found.ensures ∙ agree (was_removed c.as_slice-3.result.now c.as_slice-4.result.now m.next) (model.was_removed m n) 0 n.next same
