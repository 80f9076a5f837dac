use Rattle.round_trip.proofs.ReadFiles as laws
use Rattle.round_trip.proofs.spelled_rows_are_printable.Goals as goal

pub returns : goal.returns
returns c = laws.spelled_rows_are_printable
