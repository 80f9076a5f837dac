use Rattle.rewrite_model.proofs.Deciding as lemmas
use Rattle.rewrite_model.proofs.laws.matches_are_decided.Goals as goal

pub returns : goal.returns
returns c = lemmas.matches_are_decided
