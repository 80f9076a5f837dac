use Rattle.rewrite_model.proofs.Courses as lemmas
use Rattle.rewrite_model.proofs.laws.converged_runs_match_nowhere.Goals as goal

pub returns : goal.returns
returns c = lemmas.converged_matches_nowhere
