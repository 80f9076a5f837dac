use Rattle.std.proofs.Common.{◌∙◌, ◌++◌, ap, sym}
use Rattle.run_model.specs.LogText.{bound_text}
use Rattle.run_log.specs.Choosing.{bound_of}
use Rattle.run_log.specs.Cursor.{good}
use Rattle.run_log.proofs.Endings.{bound_front}
use Rattle.run_log.proofs.reading_ending.bound_kind.Goals as goal

pub returns-in-Rewrites-clause-complete : goal.returns-in-Rewrites-clause-complete
returns-in-Rewrites-clause-complete c = λ k r h.
    let same = sym (bound_front k r) ∙ ap (λ a. bound_of a.rest) (sym h) ∙ sym c.bound_here-kind.ensures ∙ c.in-Rewrites.is in
    (c.in-Rewrites.is ∙ sym same, c.literal.ensures.complete r (h ∙ ap (λ v. good (bound_text v ++ r)) same))

pub returns-in-RowLimit-clause-complete : goal.returns-in-RowLimit-clause-complete
returns-in-RowLimit-clause-complete c = λ k r h.
    let same = sym (bound_front k r) ∙ ap (λ a. bound_of a.rest) (sym h) ∙ sym c.bound_here-kind.ensures ∙ c.in-RowLimit.is in
    (c.in-RowLimit.is ∙ sym same, c.literal-in-RowLimit.ensures.complete r (h ∙ ap (λ v. good (bound_text v ++ r)) same))

pub returns-in-SlotLimit-clause-complete : goal.returns-in-SlotLimit-clause-complete
returns-in-SlotLimit-clause-complete c = λ k r h.
    let same = sym (bound_front k r) ∙ ap (λ a. bound_of a.rest) (sym h) ∙ sym c.bound_here-kind.ensures ∙ c.in-SlotLimit.is in
    (c.in-SlotLimit.is ∙ sym same, c.literal-in-SlotLimit.ensures.complete r (h ∙ ap (λ v. good (bound_text v ++ r)) same))
