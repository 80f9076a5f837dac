use Rattle.mlir_attributes.proofs.AttrsComplete.{attr_text_complete}
use Rattle.mlir_attributes.proofs.AttrsSound.{attr_text_sound}
use Rattle.spelling_laws.proofs.laws.attributes_are_read.Goals as goal

pub returns : goal.returns
returns c = λ bytes x text. (λ read. attr_text_sound bytes x text read, λ spelled. attr_text_complete bytes x spelled)
