use Rattle.std.proofs.Common.{◌≡◌, ◌∙◌, sym, ap, true, false, length}
use Rattle.std.specs.Prelude.{◌==◌}
use Rattle.run_model.specs.LogText.{header}
use Rattle.run_log.specs.Cursor.{good}
use Rattle.run_log.proofs.Pieces.{true_false}
use Rattle.run_log.proofs.Walks.{no_header, no_end, goes_over, is_log, empty, not_empty, few_of}
use Rattle.run_log.proofs.Unique.{one_run}
use Rattle.run_log.proofs.whole.read_log.Goals as goal

pub returns-then-not-cursor-clause-fault : goal.returns-then-not-cursor-clause-fault
unfolding header
returns-then-not-cursor-clause-fault c =
    let bad : c.literal.new.self.ok ≡ false = sym (ap (λ a. a.ok) c.cursor.view_is) ∙ c.if-not-cursor.true in
    no_header c.args.bytes.now (λ r e. true_false (sym (ap (λ a. a.ok) (c.literal.ensures.complete r (ap good e))) ∙ bad))

pub returns-then-not-cursor-2-clause-fault : goal.returns-then-not-cursor-2-clause-fault
unfolding header
returns-then-not-cursor-2-clause-fault c =
    let ok : c.literal.new.self.ok ≡ true = sym (ap (λ a. a.ok) c.cursor.view_is) ∙ c.if-not-cursor.false in
    let bad : c.ending-ending.new.cursor.ok ≡ false = sym (ap (λ a. a.ok) c.cursor-2.view_is) ∙ c.if-not-cursor-2.true in
    let read = c.in_ok-taken.ensures {u = tt} in
    let taken = c.in_ok-taken.taken in
    let few = few_of c.args.bytes.now c.literal.new.self (length taken) c.literal.ensures.sound ok read.few c.requires in
    no_end c.args.bytes.now c.literal.new.self c.steps.new.cursor c.ending-ending.new.cursor taken c.len-2.result c.len.result c.literal.ensures.sound ok read.walk few c.len-2.ensures c.len.ensures bad
    (λ e r is h. (c.ending-ending.ensures.complete e r is h).1)

pub returns-then-not-is_empty-clause-fault : goal.returns-then-not-is_empty-clause-fault
unfolding header
returns-then-not-is_empty-clause-fault c =
    let new = c.ending-ending.new.cursor in
    let ok : c.literal.new.self.ok ≡ true = sym (ap (λ a. a.ok) c.cursor.view_is) ∙ c.if-not-cursor.false in
    let well : new.ok ≡ true = sym (ap (λ a. a.ok) c.cursor-2.view_is) ∙ c.if-not-cursor-2.false in
    let read = c.in_ok-taken.ensures {u = tt} in
    let taken = c.in_ok-taken.taken in
    let few = few_of c.args.bytes.now c.literal.new.self (length taken) c.literal.ensures.sound ok read.few c.requires in
    let some = not_empty new.rest (ap (λ a. length a.rest == 0) (sym c.cursor-2.view_is) ∙ sym c.is_empty.ensures ∙ c.if-not-is_empty.true) in
    goes_over c.args.bytes.now c.literal.new.self c.steps.new.cursor new taken c.len-2.result c.len.result c.ending-ending.result c.literal.ensures.sound ok read.walk few c.len-2.ensures c.len.ensures
    c.ending-ending.ensures.sound c.ending-ending.ensures.is well some

pub returns-clause-found : goal.returns-clause-found
unfolding header
returns-clause-found c =
    let new = c.ending-ending.new.cursor in
    let ok : c.literal.new.self.ok ≡ true = sym (ap (λ a. a.ok) c.cursor.view_is) ∙ c.if-not-cursor.false in
    let well : new.ok ≡ true = sym (ap (λ a. a.ok) c.cursor-2.view_is) ∙ c.if-not-cursor-2.false in
    let read = c.in_ok-taken.ensures {u = tt} in
    let none = empty new.rest (ap (λ a. length a.rest == 0) (sym c.cursor-2.view_is) ∙ sym c.is_empty.ensures ∙ c.if-not-is_empty.false) in
    is_log c.args.bytes.now c.literal.new.self c.steps.new.cursor new c.in_ok-taken.taken c.len-2.result c.ending-ending.result c.literal.ensures.sound ok read.walk c.len-2.ensures c.ending-ending.ensures.sound well none

pub returns-clause-again : goal.returns-clause-again
unfolding header
returns-clause-again c = λ steps end log.
    let new = c.ending-ending.new.cursor in
    let ok : c.literal.new.self.ok ≡ true = sym (ap (λ a. a.ok) c.cursor.view_is) ∙ c.if-not-cursor.false in
    let well : new.ok ≡ true = sym (ap (λ a. a.ok) c.cursor-2.view_is) ∙ c.if-not-cursor-2.false in
    let read = c.in_ok-taken.ensures {u = tt} in
    let none = empty new.rest (ap (λ a. length a.rest == 0) (sym c.cursor-2.view_is) ∙ sym c.is_empty.ensures ∙ c.if-not-is_empty.false) in
    let text = is_log c.args.bytes.now c.literal.new.self c.steps.new.cursor new c.in_ok-taken.taken c.len-2.result c.ending-ending.result c.literal.ensures.sound ok read.walk c.len-2.ensures c.ending-ending.ensures.sound well none in
    one_run c.args.bytes.now c.in_ok-taken.taken steps c.ending-ending.result end c.requires (record { steps_are = read.walk.steps_are; ending_is = c.ending-ending.ensures.is; text_is = text }) log
