use Rattle.round_trip.proofs.ReadAgain as laws
use Rattle.round_trip.proofs.reads_again.Goals as goal

pub returns : goal.returns
returns c = laws.reads_again
