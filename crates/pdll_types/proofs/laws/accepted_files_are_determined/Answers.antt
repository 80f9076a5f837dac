use Rattle.pdll_types.proofs.determined.Files as lemmas
use Rattle.pdll_types.proofs.laws.accepted_files_are_determined.Goals as goal

pub returns : goal.returns
returns c = lemmas.accepted_files_are_determined
