use Rattle.std.proofs.Common.{◌∙◌, ap, refl}
use Rattle.run_model.specs.LogText.{ending_line}
use Rattle.run_log.specs.Cursor.{good}
use Rattle.run_log.proofs.Pieces.{takes_then}
use Rattle.run_log.proofs.Endings.{bound_behind}
use Rattle.run_log.proofs.reading_ending.bound.Goals as goal

pub returns-clause-sound : goal.returns-clause-sound
unfolding ending_line
returns-clause-sound c =
    let end = takes_then _ _ _ _ _ c.count.ensures.sound (takes_then _ _ _ _ _ c.place-hit.ensures.sound c.literal-3.ensures.sound) in
    takes_then _ _ _ _ _ c.literal.ensures.sound (takes_then _ _ _ _ _ c.bound_kind-kind.ensures.sound (takes_then _ _ _ _ _ c.literal-2.ensures.sound end))

pub returns-clause-complete : goal.returns-clause-complete
returns-clause-complete c = λ k h r is e.
    let at_kind = c.literal.ensures.complete _ (e ∙ ap good (bound_behind c.args.count k h r)) in
    let (kind, behind_kind) = c.bound_kind-kind.ensures.complete k _ at_kind in
    let at_place = c.count.ensures.complete _ (c.literal-2.ensures.complete _ behind_kind) in
    let (hit, behind_place) = c.place-hit.ensures.complete h _ is.0 is.1 refl at_place in
    (rw (kind, hit) refl, c.literal-3.ensures.complete r behind_place)
