use Rattle.rewrite_model.proofs.Unique as lemmas
use Rattle.rewrite_model.proofs.laws.at_most_one_assignment.Goals as goal

pub returns : goal.returns
returns c = lemmas.at_most_one
