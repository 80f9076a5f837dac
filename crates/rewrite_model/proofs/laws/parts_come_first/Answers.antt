use Rattle.rewrite_model.proofs.Ordering as lemmas
use Rattle.rewrite_model.proofs.laws.parts_come_first.Goals as goal

pub returns : goal.returns
returns c = lemmas.parts_come_first
