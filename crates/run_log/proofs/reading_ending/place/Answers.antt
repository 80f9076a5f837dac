use Rattle.std.proofs.Common.{◌∙◌, ap, sym, refl, decimal, append-nil}
use Rattle.run_log.specs.Cursor.{good}
use Rattle.run_log.proofs.Pieces.{takes_then, takes_as}
use Rattle.run_log.proofs.Endings.{place_behind}
use Rattle.run_log.proofs.reading_ending.place.Goals as goal

pub returns-clause-sound : goal.returns-clause-sound
returns-clause-sound c =
    let root = takes_as _ _ _ _ c.number-row.ensures.sound (sym (append-nil (decimal c.number-row.result))) in
    takes_then _ _ _ _ _ c.literal.ensures.sound (takes_then _ _ _ _ _ c.number-pattern.ensures.sound (takes_then _ _ _ _ _ c.literal-2.ensures.sound root))

pub returns-clause-complete : goal.returns-clause-complete
returns-clause-complete c = λ h r small_pattern small_row ends e.
    let at_pattern = c.literal.ensures.complete _ (e ∙ ap good (place_behind h.pattern h.row r)) in
    let (pattern, behind) = c.number-pattern.ensures.complete h.pattern _ small_pattern refl at_pattern in
    let (row, new) = c.number-row.ensures.complete h.row r small_row ends (c.literal-2.ensures.complete _ behind) in
    (rw (pattern, row) refl, new)
