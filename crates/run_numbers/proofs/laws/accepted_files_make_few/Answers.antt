use Rattle.std.specs.Prelude.{[]}
use Rattle.rewrite_model.specs.Expanding.{patterns}
use Rattle.pdll_types.specs.Accepted.{IsAccepted}
use Rattle.run_numbers.proofs.Few.{few_from}
use Rattle.run_numbers.proofs.laws.accepted_files_make_few.Goals as goal

pub returns : goal.returns
unfolding IsAccepted patterns
returns c = λ file accepted. few_from c.sizes_bound_operations.ensures [] [] file.decls accepted
