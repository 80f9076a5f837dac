use Rattle.rewrite_model.proofs.WellFormedSteps as lemmas
use Rattle.rewrite_model.proofs.laws.runs_keep_well_formed.Goals as goal

pub returns : goal.returns
returns c = lemmas.runs_keep_well_formed
