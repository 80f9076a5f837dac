use Rattle.rewrite_model.proofs.Courses as lemmas
use Rattle.rewrite_model.proofs.laws.numbers_rise.Goals as goal

pub returns : goal.returns
returns c = lemmas.numbers_rise
