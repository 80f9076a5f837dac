use Rattle.std.proofs.Common.{◌∙◌, ◌++◌, ap, sym, subst}
use Rattle.std.specs.Prelude.{slice_index}
use Rattle.run_model.specs.LogText.{ending_line}
use Rattle.run_log.specs.Cursor.{good}
use Rattle.run_log.specs.Written.{IsEnding}
use Rattle.run_log.proofs.Endings.{is_converged, is_bound, is_broken}
use Rattle.run_log.proofs.reading_ending.ending.Goals as goal

pub returns-then-byte_at-eq99-clause-complete : goal.returns-then-byte_at-eq99-clause-complete
returns-then-byte_at-eq99-clause-complete c = λ e r is h.
    let same = is_converged c.args.count e r (ap (λ a. slice_index a.rest 4) (sym h) ∙ sym c.byte_at.ensures ∙ c.if-byte_at-eq99.true) in
    (c.converged.ensures.is ∙ sym same, c.converged.ensures.complete r (h ∙ ap (λ v. good (ending_line c.args.count v ++ r)) same))

pub returns-then-byte_at-eq111-clause-complete : goal.returns-then-byte_at-eq111-clause-complete
returns-then-byte_at-eq111-clause-complete c = λ e r is h.
    let (k, hit, same) = is_bound c.args.count e r (λ x. c.if-byte_at-eq99.false (c.byte_at.ensures ∙ ap (λ a. slice_index a.rest 4) h ∙ x))
    (ap (λ a. slice_index a.rest 5) (sym h) ∙ sym c.byte_at-else-byte_at-eq99.ensures ∙ c.if-byte_at-eq111.true) in
    let (read, new) = c.bound.ensures.complete k hit r (subst IsEnding same is) (h ∙ ap (λ v. good (ending_line c.args.count v ++ r)) same) in
    (read ∙ sym same, new)

pub returns-else-byte_at-eq111-clause-complete : goal.returns-else-byte_at-eq111-clause-complete
returns-else-byte_at-eq111-clause-complete c = λ e r is h.
    let (b, same) = is_broken c.args.count e r (λ x. c.if-byte_at-eq99.false (c.byte_at.ensures ∙ ap (λ a. slice_index a.rest 4) h ∙ x))
    (λ x. c.if-byte_at-eq111.false (c.byte_at-else-byte_at-eq99.ensures ∙ ap (λ a. slice_index a.rest 5) h ∙ x)) in
    let (read, new) = c.broken.ensures.complete b r (subst IsEnding same is) (h ∙ ap (λ v. good (ending_line c.args.count v ++ r)) same) in
    (read ∙ sym same, new)
