use Rattle.rewrite_model.proofs.SomeRun as lemmas
use Rattle.rewrite_model.proofs.laws.one_run.Goals as goal

pub returns : goal.returns
returns c = lemmas.one_run
