use Rattle.std.proofs.Common.{arith}
use Rattle.rewrite_model.specs.Expanding.{patterns}
use Rattle.run_numbers.proofs.Growing.{grown}
use Rattle.run_numbers.proofs.laws.numbers_stay_small.Goals as goal

pub returns : goal.returns
returns c = λ order file accepted bound m k few first reached.
    let grows = grown c.steps_give_numbers.ensures order (patterns file) (c.accepted_files_make_few.ensures file accepted) bound m k reached in
    omega (arith, grows, few, first)
