use Rattle.std.proofs.Common.{◌∙◌, ap, refl}
use Rattle.rewrite_model.specs.Taken.{step_of}
use Rattle.run_log.specs.Cursor.{good}
use Rattle.run_log.proofs.Lines.{step_pieces, step_behind, step_same}
use Rattle.run_log.proofs.Pieces.{takes_then, takes_as}
use Rattle.run_log.proofs.reading.step.Goals as goal

pub returns-clause-sound : goal.returns-clause-sound
returns-clause-sound c =
    let name = (c.in_ok-name.ensures {u = tt}).sound in
    let made = (c.in_ok-made.ensures {u = tt}).sound in
    let removed = (c.in_ok-removed.ensures {u = tt}).sound in
    let end = takes_then _ _ _ _ _ removed c.literal-7.ensures.sound in
    let from_made = takes_then _ _ _ _ _ c.literal-5.ensures.sound (takes_then _ _ _ _ _ made (takes_then _ _ _ _ _ c.literal-6.ensures.sound end)) in
    let from_name = takes_then _ _ _ _ _ name (takes_then _ _ _ _ _ c.literal-4.ensures.sound (takes_then _ _ _ _ _ c.number-root.ensures.sound from_made)) in
    let from_pattern = takes_then _ _ _ _ _ c.literal-2.ensures.sound (takes_then _ _ _ _ _ c.number-pattern.ensures.sound (takes_then _ _ _ _ _ c.literal-3.ensures.sound from_name)) in
    takes_as _ _ _ _ (takes_then _ _ _ _ _ c.literal.ensures.sound (takes_then _ _ _ _ _ c.count.ensures.sound from_pattern))
    (step_pieces c.args.count (step_of c.number-pattern.result c.in_ok-name.name c.number-root.result c.in_ok-made.made c.in_ok-removed.removed))

pub returns-clause-complete : goal.returns-clause-complete
returns-clause-complete c = λ s r is h.
    let at_count = c.literal.ensures.complete _ (h ∙ ap good (step_behind c.args.count s r)) in
    let at_pattern = c.literal-2.ensures.complete _ (c.count.ensures.complete _ at_count) in
    let (pattern, behind_pattern) = c.number-pattern.ensures.complete s.pattern _ is.pattern refl at_pattern in
    let at_name = c.literal-3.ensures.complete _ behind_pattern in
    let (name, behind_name) = (c.in_ok-name.ensures {u = tt}).complete s.name _ is.name at_name in
    let (root, behind_root) = c.number-root.ensures.complete s.root _ is.root refl (c.literal-4.ensures.complete _ behind_name) in
    let (made, behind_made) = (c.in_ok-made.ensures {u = tt}).complete s.made _ is.made is.made_rise (refl, refl) (c.literal-5.ensures.complete _ behind_root) in
    let (removed, behind_removed) = (c.in_ok-removed.ensures {u = tt}).complete s.removed _ is.removed is.removed_rise (refl, refl) (c.literal-6.ensures.complete _ behind_made) in
    (step_same s c.number-pattern.result c.number-root.result c.in_ok-name.name c.in_ok-made.made c.in_ok-removed.removed pattern name root made removed, c.literal-7.ensures.complete r behind_removed)
