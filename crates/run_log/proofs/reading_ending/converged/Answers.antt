use Rattle.std.proofs.Common.{◌∙◌, ap}
use Rattle.run_model.specs.LogText.{ending_line}
use Rattle.run_log.specs.Cursor.{good}
use Rattle.run_log.proofs.Pieces.{takes_then}
use Rattle.run_log.proofs.Endings.{converged_behind}
use Rattle.run_log.proofs.reading_ending.converged.Goals as goal

pub returns-clause-sound : goal.returns-clause-sound
unfolding ending_line
returns-clause-sound c = takes_then _ _ _ _ _ c.literal.ensures.sound (takes_then _ _ _ _ _ c.count.ensures.sound c.literal-2.ensures.sound)

pub returns-clause-complete : goal.returns-clause-complete
returns-clause-complete c = λ r h.
    let at_count = c.literal.ensures.complete _ (h ∙ ap good (converged_behind c.args.count r)) in
    c.literal-2.ensures.complete r (c.count.ensures.complete _ at_count)
