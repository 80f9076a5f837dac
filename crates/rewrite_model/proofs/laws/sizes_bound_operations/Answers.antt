use Rattle.rewrite_model.proofs.Bounding as lemmas
use Rattle.rewrite_model.proofs.laws.sizes_bound_operations.Goals as goal

pub returns : goal.returns
returns c = lemmas.sizes_bound_operations
