use Rattle.rewrite_model.proofs.WellFormedSteps as lemmas
use Rattle.rewrite_model.proofs.laws.rewrites_keep_layout.Goals as goal

pub returns : goal.returns
returns c = lemmas.rewrites_keep_layout
