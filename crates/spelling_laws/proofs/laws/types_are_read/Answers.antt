use Rattle.mlir_attributes.proofs.TypesComplete.{type_complete}
use Rattle.mlir_attributes.proofs.TypesSound.{type_sound}
use Rattle.spelling_laws.proofs.laws.types_are_read.Goals as goal

pub returns : goal.returns
returns c = λ bytes x text. (λ read. type_sound bytes x text read, λ spelled. type_complete bytes x spelled)
