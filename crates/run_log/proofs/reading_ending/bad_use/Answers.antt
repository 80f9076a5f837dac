use Rattle.std.proofs.Common.{◌∙◌, ap, sym, refl, decimal, append-nil}
use Rattle.run_log.specs.Cursor.{good}
use Rattle.run_log.proofs.Pieces.{takes_then, takes_as}
use Rattle.run_log.proofs.Endings.{use_behind}
use Rattle.run_log.proofs.reading_ending.bad_use.Goals as goal

pub returns-clause-sound : goal.returns-clause-sound
returns-clause-sound c =
    let last = takes_as _ _ _ _ c.short_number-place.ensures.sound (sym (append-nil (decimal c.short_number-place.result))) in
    takes_then _ _ _ _ _ c.literal.ensures.sound (takes_then _ _ _ _ _ c.number-row.ensures.sound (takes_then _ _ _ _ _ c.literal-2.ensures.sound last))

pub returns-clause-complete : goal.returns-clause-complete
returns-clause-complete c = λ row place r small_row small_place ends e.
    let at_row = c.literal.ensures.complete _ (e ∙ ap good (use_behind row place r)) in
    let (same_row, behind) = c.number-row.ensures.complete row _ small_row refl at_row in
    let (same_place, new) = c.short_number-place.ensures.complete place r small_place ends (c.literal-2.ensures.complete _ behind) in
    (rw (same_row, same_place) refl, new)
