use Rattle.std.proofs.Common.{◌≡◌, ◌<◌, ◌∙◌, ◌++◌, [], ◌∷◌, sym, ap, true, false, subst, arith, drop, refl}
use Rattle.std.specs.Prelude.{slice_index, ◌==◌}
use Rattle.rewrite_model.specs.Taken.{IsRising}
use Rattle.run_log.specs.Cursor.{Takes}
use Rattle.run_log.proofs.Lines.{more_numbers}
use Rattle.run_log.specs.Written.{AreWords}
use Rattle.run_log.proofs.Pieces.{takes_no, true_false}
use Rattle.run_log.proofs.Numbers.{LeftNumbers, left_more, left_none, rises_more, starts_more, took_more, other_byte, words_more}
use Rattle.run_log.proofs.reading.more_numbers.Goals as goal
use Rattle.run_log.proofs.reading.more_numbers.Goals.{then-loop-cursor-test+else-byte_at-eq44, else-loop-cursor-test}

pub loop-cursor-preserved-then-next-last : goal.loop-cursor-preserved-then-next-last
loop-cursor-preserved-then-next-last c =
    let l = c.loop-cursor in
    let comma : (slice_index l.cursor.rest 0 == 44) ≡ true = ap (λ b. b == 44) (sym c.byte_at.ensures ∙ c.if-byte_at-eq44.true) in
    record {
      starts = l.invariant.starts;
      rising = l.invariant.rising;
      words = l.invariant.words;
      last = l.invariant.last;
      took = takes_no _ _ _ refl;
      left = λ ns r words rising ends h.
          let (less, more) = left_more c.args.cursor.now l.cursor c.literal.new.self c.number-next.new.self c.args.first l.numbers l.last c.number-next.result l.invariant.left comma c.literal.ensures.complete c.number-next.ensures.complete ns r words rising ends h in
          absurd (omega (arith, less, c.if-next-last.true));
    }

pub loop-cursor-preserved : goal.loop-cursor-preserved
loop-cursor-preserved c =
    let l = c.loop-cursor in
    let next = c.number-next.result in
    let new = c.number-next.new.self in
    let start = c.args.cursor.now in
    let comma : (slice_index l.cursor.rest 0 == 44) ≡ true = ap (λ b. b == 44) (sym c.byte_at.ensures ∙ c.if-byte_at-eq44.true) in
    let grown : c.push-else-next-last.new.self ≡ l.numbers ++ next ∷ [] = (c.in_ok-push-2.ensures {u = tt}).ok in
    let less : l.last < next = omega (arith, c.if-next-last.false) in
    let (front, is) = l.invariant.last in
    record {
      starts = subst (λ ns. ns ≡ c.args.first ∷ drop 1 ns) (sym grown) (starts_more l.numbers c.args.first next l.invariant.starts);
      rising = subst IsRising (ap (λ t. t ++ next ∷ []) (sym is) ∙ sym grown) (rises_more front l.last next (subst IsRising is l.invariant.rising) less);
      words = subst AreWords (sym grown) (words_more l.numbers next l.invariant.words (omega arith));
      last = (l.numbers, grown);
      took = subst (λ ns. Takes start new (more_numbers (drop 1 ns))) (sym grown)
          (took_more start l.cursor c.literal.new.self new l.numbers c.args.first next l.invariant.starts l.invariant.took c.literal.ensures.sound c.number-next.ensures.sound);
      left = subst (λ ns. LeftNumbers start new c.args.first ns next) (sym grown)
          (λ ns r words rising ends h. (left_more start l.cursor c.literal.new.self new c.args.first l.numbers l.last next l.invariant.left comma c.literal.ensures.complete c.number-next.ensures.complete ns r words rising ends h).1);
    }

pub returns-clause-complete : goal.returns-clause-complete
returns-clause-complete c = λ ns r words rising ends h.
    let l = c.loop-cursor in
    let none : l.cursor.ok ≡ true → (slice_index l.cursor.rest 0 == 44) ≡ false =
    elim c.loop-cursor-test.branch [
      | then-loop-cursor-test+else-byte_at-eq44 w ↦ λ ok. other_byte (slice_index l.cursor.rest 0) (λ e. w.if-byte_at-eq44.false (w.byte_at.ensures ∙ e))
      | else-loop-cursor-test w ↦ λ ok. absurd (true_false (sym ok ∙ sym (ap (λ a. a.ok) c.cursor.view_is) ∙ w.loop-cursor-test.false))
    ] in
    left_none c.args.cursor.now l.cursor c.args.first l.numbers l.last ns r l.invariant.left none words rising ends h
