use Rattle.std.proofs.Common.{◌∙◌, ap}
use Rattle.run_log.specs.Cursor.{byte_of}
use Rattle.run_log.proofs.Pieces.{byte_front}
use Rattle.run_log.proofs.cursor.Cursor.byte.Goals as goal

pub returns-clause-complete : goal.returns-clause-complete
returns-clause-complete c = λ b r small h.
    let is = c.candidate-b.ensures ∙ ap (λ a. byte_of a.rest) h ∙ byte_front b r small in
    (is, c.spelled.ensures.complete r (rw is h))
