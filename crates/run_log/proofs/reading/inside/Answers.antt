use Rattle.std.proofs.Common.{◌≡◌, ◌∙◌, ◌++◌, [], ◌∷◌, sym, ap, true, subst, arith}
use Rattle.std.specs.Prelude.{slice_index}
use Rattle.run_log.specs.Cursor.{Takes}
use Rattle.run_log.specs.Written.{AreBytes}
use Rattle.run_log.proofs.Pieces.{true_false}
use Rattle.run_log.proofs.Strings.{inside_text, LeftBytes, left_more, left_none, took_more, bytes_more}
use Rattle.run_log.proofs.reading.inside.Goals as goal
use Rattle.run_log.proofs.reading.inside.Goals.{then-loop-cursor-test+else-byte_at-ne34, else-loop-cursor-test}

pub loop-cursor-preserved : goal.loop-cursor-preserved
loop-cursor-preserved c =
    let l = c.loop-cursor in
    let grown : c.push.new.self ≡ l.bytes ++ c.byte.result ∷ [] = (c.in_ok-push.ensures {u = tt}).ok in
    record {
      all = subst AreBytes (sym grown) (bytes_more l.bytes c.byte.result l.invariant.all (omega arith));
      took = subst (λ bytes. Takes c.args.cursor.now c.byte.new.self (inside_text bytes)) (sym grown) (took_more c.args.cursor.now l.cursor c.byte.new.self l.bytes c.byte.result l.invariant.took c.byte.ensures.sound);
      left = subst (λ bytes. LeftBytes c.args.cursor.now c.byte.new.self bytes) (sym grown) (left_more c.args.cursor.now l.cursor c.byte.new.self l.bytes c.byte.result l.invariant.left (λ e. c.if-byte_at-ne34.true (c.byte_at.ensures ∙ e)) c.byte.ensures.complete);
    }

pub returns-clause-complete : goal.returns-clause-complete
returns-clause-complete c = λ bytes r words h.
    let l = c.loop-cursor in
    let ends : l.cursor.ok ≡ true → slice_index l.cursor.rest 0 ≡ 34 =
    elim c.loop-cursor-test.branch [
      | then-loop-cursor-test+else-byte_at-ne34 w ↦ λ ok. sym w.byte_at.ensures ∙ w.if-byte_at-ne34.false
      | else-loop-cursor-test w ↦ λ ok. absurd (true_false (sym ok ∙ sym (ap (λ a. a.ok) c.cursor.view_is) ∙ w.loop-cursor-test.false))
    ] in
    left_none c.args.cursor.now l.cursor l.bytes bytes r l.invariant.left ends words h
