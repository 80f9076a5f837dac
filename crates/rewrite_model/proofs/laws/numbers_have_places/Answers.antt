use Rattle.rewrite_model.proofs.Placing as lemmas
use Rattle.rewrite_model.proofs.laws.numbers_have_places.Goals as goal

pub returns : goal.returns
returns c = lemmas.numbers_have_places
