use Rattle.std.proofs.Common.{◌≡◌, ℕ, List, subst}
use Rattle.std.specs.Prelude.{filter}
use Rattle.mlir_tree.specs.declared.row.Row.{Row}
use Rattle.mlir_tree.specs.Module.{is_contained}
use Rattle.rewrite_step.specs.Removing.{is_inner, stays}
use Rattle.rewrite_step.proofs.Removing.{stay_exactly}
use Rattle.rewrite_step.proofs.Moving.{moved_twice}
use Rattle.rewrite_step.proofs.edits.remove_with_inner.Goals as goal

pub returns : goal.returns
returns c =
    let old = c.args.rows.now in
    let inner = c.in_ok-inner.inner in
    let known = subst (λ (rs : List Row). (u : ℕ) → is_inner inner u ≡ is_contained rs u c.args.owner) c.as_slice.ensures c.in_ok-inner.ensures in
    stay_exactly inner old c.args.owner c.move_back.new.rows known
    (moved_twice (filter (λ (r : Row). stays inner c.args.owner r.id) old.rows) c.new-kept.result c.move_kept.new.rows c.move_kept.new.kept c.move_back.new.rows
    c.new-kept.ensures c.in_ok-move_kept.ensures.none c.in_ok-move_kept.ensures.kept c.in_ok-move_back.ensures)
