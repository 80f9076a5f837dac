use Rattle.rewrite_model.proofs.WellFormedSteps as lemmas
use Rattle.rewrite_model.proofs.laws.steps_keep_well_formed.Goals as goal

pub returns : goal.returns
returns c = lemmas.steps_keep_well_formed
