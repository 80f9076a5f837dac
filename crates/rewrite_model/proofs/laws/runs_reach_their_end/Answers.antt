use Rattle.rewrite_model.proofs.WellFormedSteps as lemmas
use Rattle.rewrite_model.proofs.laws.runs_reach_their_end.Goals as goal

pub returns : goal.returns
returns c = lemmas.runs_reach_their_end
