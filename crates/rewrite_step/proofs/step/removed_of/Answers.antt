use Rattle.std.proofs.Common.{ℕ, Bool, sym, ◌∙◌}
use Rattle.rewrite_step.specs.Marking.{was_removed}
use Rattle.rewrite_step.proofs.Marking.{one_passes, one_fails}
use Rattle.rewrite_step.proofs.step.removed_of.Goals as goal
use Rattle.rewrite_step.proofs.step.removed_of.Goals.{then-was_removed+in_ok-push, else-was_removed}

pub loop-id-preserved : goal.loop-id-preserved
loop-id-preserved c =
    let p : ℕ → Bool = was_removed c.args.before.now c.args.after.now c.args.next in
    let found = c.loop-id.found in
    let id = c.loop-id.id in
    elim c.if-was_removed.branch [
      | then-was_removed+in_ok-push w ↦ one_passes p found c.if-was_removed.found id c.loop-id.invariant (sym c.was_removed.ensures ∙ w.if-was_removed.true) (w.found-is ∙ w.in_ok-push.ensures.ok)
      | else-was_removed w ↦ one_fails p found c.if-was_removed.found id c.loop-id.invariant (sym c.was_removed.ensures ∙ w.if-was_removed.false) w.found-is
    ]
