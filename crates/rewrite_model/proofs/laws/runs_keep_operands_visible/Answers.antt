use Rattle.rewrite_model.proofs.Courses as lemmas
use Rattle.rewrite_model.proofs.laws.runs_keep_operands_visible.Goals as goal

pub returns : goal.returns
returns c = lemmas.runs_keep_visible
