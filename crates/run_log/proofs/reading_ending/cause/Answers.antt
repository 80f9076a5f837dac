use Rattle.std.proofs.Common.{◌∙◌, ◌++◌, ap, sym, subst}
use Rattle.rewrite_model.specs.declared.run.Break.TheVariants.{Gone, Count, Types, Top, NativeRefused}
use Rattle.run_model.specs.LogText.{break_text}
use Rattle.run_log.specs.Choosing.{break_of}
use Rattle.run_log.specs.Cursor.{good}
use Rattle.run_log.specs.Written.{IsBreak}
use Rattle.run_log.proofs.Endings.{break_front, bare_use, bare_same}
use Rattle.run_log.proofs.reading_ending.cause.Goals as goal

pub returns-in-BadUse-clause-complete : goal.returns-in-BadUse-clause-complete
returns-in-BadUse-clause-complete c = λ w r is ends h.
    let (row, place, same) = bare_use w c.in-BadUse.field-0 c.in-BadUse.field-1 (sym (break_front w r) ∙ ap (λ a. break_of a.rest) (sym h) ∙ sym c.break_here-why.ensures ∙ c.in-BadUse.is) in
    let small = subst IsBreak same is in
    let (read, new) = c.bad_use.ensures.complete row place r small.0 small.1 ends (h ∙ ap (λ v. good (break_text v ++ r)) same) in
    (read ∙ sym same, new)

pub returns-in-Gone-clause-complete : goal.returns-in-Gone-clause-complete
returns-in-Gone-clause-complete c = λ w r is ends h.
    let same = bare_same w Gone (sym (break_front w r) ∙ ap (λ a. break_of a.rest) (sym h) ∙ sym c.break_here-why.ensures ∙ c.in-Gone.is) tt in
    (c.in-Gone.is ∙ sym same, c.literal.ensures.complete r (h ∙ ap (λ v. good (break_text v ++ r)) same))

pub returns-in-Count-clause-complete : goal.returns-in-Count-clause-complete
returns-in-Count-clause-complete c = λ w r is ends h.
    let same = bare_same w Count (sym (break_front w r) ∙ ap (λ a. break_of a.rest) (sym h) ∙ sym c.break_here-why.ensures ∙ c.in-Count.is) tt in
    (c.in-Count.is ∙ sym same, c.literal-in-Count.ensures.complete r (h ∙ ap (λ v. good (break_text v ++ r)) same))

pub returns-in-Types-clause-complete : goal.returns-in-Types-clause-complete
returns-in-Types-clause-complete c = λ w r is ends h.
    let same = bare_same w Types (sym (break_front w r) ∙ ap (λ a. break_of a.rest) (sym h) ∙ sym c.break_here-why.ensures ∙ c.in-Types.is) tt in
    (c.in-Types.is ∙ sym same, c.literal-in-Types.ensures.complete r (h ∙ ap (λ v. good (break_text v ++ r)) same))

pub returns-in-Top-clause-complete : goal.returns-in-Top-clause-complete
returns-in-Top-clause-complete c = λ w r is ends h.
    let same = bare_same w Top (sym (break_front w r) ∙ ap (λ a. break_of a.rest) (sym h) ∙ sym c.break_here-why.ensures ∙ c.in-Top.is) tt in
    (c.in-Top.is ∙ sym same, c.literal-in-Top.ensures.complete r (h ∙ ap (λ v. good (break_text v ++ r)) same))

pub returns-in-NativeRefused-clause-complete : goal.returns-in-NativeRefused-clause-complete
returns-in-NativeRefused-clause-complete c = λ w r is ends h.
    let same = bare_same w NativeRefused (sym (break_front w r) ∙ ap (λ a. break_of a.rest) (sym h) ∙ sym c.break_here-why.ensures ∙ c.in-NativeRefused.is) tt in
    (c.in-NativeRefused.is ∙ sym same, c.literal-in-NativeRefused.ensures.complete r (h ∙ ap (λ v. good (break_text v ++ r)) same))
