use Rattle.pdllrw_command.proofs.Success
use Rattle.pdllrw_command.proofs.laws.completes.Goals as goal

pub returns : goal.returns
returns c = λ old new words s well outcome. Success.completes old new words well s outcome
