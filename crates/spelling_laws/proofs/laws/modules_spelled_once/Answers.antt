use Rattle.mlir_parse.specs.FileGrammar.{IsModuleFile}
use Rattle.mlir_parse.specs.ModuleFile.{module_file}
use Rattle.mlir_parse.proofs.FilesComplete.{file_complete}
use Rattle.spelling_laws.proofs.Once.{once}
use Rattle.spelling_laws.proofs.laws.modules_spelled_once.Goals as goal

pub returns : goal.returns
returns c = once IsModuleFile module_file file_complete
