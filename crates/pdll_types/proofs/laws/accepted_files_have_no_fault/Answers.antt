use Rattle.pdll_types.proofs.Exclusive as lemmas
use Rattle.pdll_types.proofs.laws.accepted_files_have_no_fault.Goals as goal

pub returns : goal.returns
returns c = lemmas.accepted_files_have_no_fault
