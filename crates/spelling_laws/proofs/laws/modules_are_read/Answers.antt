use Rattle.mlir_parse.proofs.FilesComplete.{file_complete}
use Rattle.mlir_parse.proofs.FileSound.{whole_sound}
use Rattle.spelling_laws.proofs.laws.modules_are_read.Goals as goal

pub returns : goal.returns
returns c = λ bytes file. (λ read. whole_sound bytes file read, λ spelled. file_complete bytes file spelled)
