use Rattle.std.proofs.Common.{◌≡◌, ◌+◌, ◌∙◌, sym, ap, subst, true}
use Rattle.run_model.specs.LogText.{step_line}
use Rattle.run_log.specs.Cursor.{Takes}
use Rattle.run_log.specs.Walk.{WalksTo}
use Rattle.run_log.proofs.Pieces.{true_false}
use Rattle.run_log.proofs.Strings.{smaller}
use Rattle.run_log.proofs.Walks.{walk_none, walk_more, walk_ends, walk_few, step_some}
use Rattle.run_log.proofs.whole.steps.Goals as goal
use Rattle.run_log.proofs.whole.steps.Goals.{then-loop-cursor-test+else-byte_at-eq115, else-loop-cursor-test}

pub loop-cursor-init : goal.loop-cursor-init
loop-cursor-init c = subst (WalksTo c.args.cursor.now c.args.cursor.now) (sym c.new-taken.ensures) (walk_none c.args.cursor.now c.requires.well)

pub loop-cursor-smaller-in-Continue-branch-2 : goal.loop-cursor-smaller-in-Continue-branch-2
loop-cursor-smaller-in-Continue-branch-2 c =
    let next = c.in_ok-next.next in
    let ok : c.loop-cursor.cursor.ok ≡ true = sym (ap (λ a. a.ok) c.cursor.view_is) ∙ c.loop-cursor-test.true in
    smaller c.loop-cursor.cursor c.step.new.cursor (step_line (c.len.result + 1) next) ok (step_some (c.len.result + 1) next) (c.in_ok-next.ensures {u = tt}).sound

pub loop-cursor-preserved-in-Continue-branch-2 : goal.loop-cursor-preserved-in-Continue-branch-2
loop-cursor-preserved-in-Continue-branch-2 c =
    let l = c.loop-cursor in
    let new = c.step.new.cursor in
    let next = c.in_ok-next.next in
    let ok : l.cursor.ok ≡ true = sym (ap (λ a. a.ok) c.cursor.view_is) ∙ c.loop-cursor-test.true in
    let well : new.ok ≡ true = sym (ap (λ a. a.ok) c.cursor-in-loop-cursor.view_is) ∙ c.if-cursor.true in
    let read = c.in_ok-next.ensures {u = tt} in
    let took = subst (λ n. Takes l.cursor new (step_line (n + 1) next)) c.len.ensures read.sound in
    subst (WalksTo c.args.cursor.now new) (sym (c.in_ok-push.ensures {u = tt}).ok) (walk_more c.args.cursor.now l.cursor new l.taken next l.invariant ok read.is took well)

pub returns-clause-walk : goal.returns-clause-walk
returns-clause-walk c =
    let l = c.loop-cursor in
    walk_ends c.args.cursor.now l.cursor l.taken l.invariant
    (elim c.loop-cursor-test.branch [
      | then-loop-cursor-test+else-byte_at-eq115 w ↦ λ ok first. w.if-byte_at-eq115.false (w.byte_at.ensures ∙ first)
      | else-loop-cursor-test w ↦ λ ok first. true_false (sym ok ∙ sym (ap (λ a. a.ok) c.cursor.view_is) ∙ w.loop-cursor-test.false)
    ])

pub returns-clause-few : goal.returns-clause-few
returns-clause-few c = walk_few c.args.cursor.now c.loop-cursor.cursor c.loop-cursor.taken c.loop-cursor.invariant
