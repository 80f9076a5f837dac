use Rattle.round_trip.proofs.SoundFiles as laws
use Rattle.round_trip.proofs.read_rows_read_back.Goals as goal

pub returns : goal.returns
returns c = laws.read_rows_read_back
