use Rattle.rewrite_model.proofs.Counting as lemmas
use Rattle.rewrite_model.proofs.laws.steps_keep_limits.Goals as goal

pub returns : goal.returns
returns c = lemmas.steps_keep_limits
