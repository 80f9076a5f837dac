use Rattle.std.proofs.Common.{◌∙◌, ap, refl}
use Rattle.run_model.specs.LogText.{ending_line}
use Rattle.run_log.specs.Cursor.{good}
use Rattle.run_log.proofs.Pieces.{takes_then}
use Rattle.run_log.proofs.Endings.{broken_behind, broken_same}
use Rattle.run_log.proofs.reading_ending.broken.Goals as goal

pub returns-clause-sound : goal.returns-clause-sound
unfolding ending_line
returns-clause-sound c =
    let end = takes_then _ _ _ _ _ c.literal-2.ensures.sound (takes_then _ _ _ _ _ c.cause-why.ensures.sound c.literal-3.ensures.sound) in
    takes_then _ _ _ _ _ c.literal.ensures.sound (takes_then _ _ _ _ _ c.count.ensures.sound (takes_then _ _ _ _ _ c.place-hit.ensures.sound end))

pub returns-clause-complete : goal.returns-clause-complete
returns-clause-complete c = λ b r is e.
    let at_count = c.literal.ensures.complete _ (e ∙ ap good (broken_behind c.args.count b r)) in
    let at_place = c.count.ensures.complete _ at_count in
    let (hit, behind_place) = c.place-hit.ensures.complete (record { pattern = b.pattern; row = b.root }) _ is.0 is.1 refl at_place in
    let (why, behind_why) = c.cause-why.ensures.complete b.why _ is.2 refl (c.literal-2.ensures.complete _ behind_place) in
    (broken_same b c.place-hit.result c.cause-why.result hit why, c.literal-3.ensures.complete r behind_why)
