use Rattle.rewrite_model.proofs.Counting as lemmas
use Rattle.rewrite_model.proofs.laws.steps_give_numbers.Goals as goal

pub returns : goal.returns
returns c = lemmas.steps_give_numbers
