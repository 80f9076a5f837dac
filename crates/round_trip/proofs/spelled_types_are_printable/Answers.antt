use Rattle.round_trip.proofs.Whole as laws
use Rattle.round_trip.proofs.spelled_types_are_printable.Goals as goal

pub returns : goal.returns
returns c = laws.spelled_types_are_printable
