use Rattle.std.proofs.Common.{◌≡◌, ◌∙◌, ◌++◌, ◌∷◌, sym, ap, subst, decimal}
use Rattle.std.specs.Prelude.{slice_index, IfOk}
use Rattle.rewrite_model.specs.Taken.{IsRising}
use Rattle.run_model.specs.LogText.{numbers_text}
use Rattle.run_log.specs.Cursor.{good}
use Rattle.run_log.specs.Written.{AreWords}
use Rattle.run_log.proofs.Lines.{more_numbers}
use Rattle.run_log.proofs.Pieces.{joins}
use Rattle.run_log.proofs.Numbers.{dash_none, dash_some, ends_more}
use Rattle.run_log.proofs.reading.numbers.Goals as goal

pub returns-then-byte_at-eq45-clause-complete : goal.returns-then-byte_at-eq45-clause-complete
returns-then-byte_at-eq45-clause-complete c = λ ns r words rising ends h.
    let none = dash_none ns r words (sym (ap (λ a. slice_index a.rest 0) h) ∙ sym c.byte_at.ensures ∙ c.if-byte_at-eq45.true) in
    (c.new.ensures ∙ sym none, c.literal.ensures.complete r (h ∙ ap (λ t. good (numbers_text t ++ r)) none))

pub returns-clause-complete : goal.returns-clause-complete
returns-clause-complete c = λ ns r words rising ends h.
    let (n, more, is) = dash_some ns r (λ e. c.if-byte_at-eq45.false (c.byte_at.ensures ∙ ap (λ a. slice_index a.rest 0) h ∙ e)) in
    let all = subst AreWords is words in
    let (same, behind) = c.number-first.ensures.complete n (more_numbers more ++ r) all.0 (ends_more more r ends) (h ∙ ap (λ t. good (numbers_text t ++ r)) is ∙ ap good (joins (decimal n) (more_numbers more) r)) in
    let rises = subst IsRising (is ∙ ap (λ f. f ∷ more) (sym same)) rising in
    subst (λ t. IfOk c.more_numbers.result (λ x. (x ≡ t) × (c.more_numbers.new.cursor ≡ good r))) (ap (λ f. f ∷ more) same ∙ sym is)
    (c.more_numbers.ensures.complete more r all.1 rises ends behind)
