use Rattle.mlir_parse.specs.ModuleFile.{module_file}
use Rattle.mlir_parse.specs.FileGrammar.{IsModuleFile}
use Rattle.mlir_attributes.proofs.Whole.{only_by}
use Rattle.mlir_parse.proofs.FileSound.{file_found}
use Rattle.mlir_parse.proofs.FilesComplete.{file_complete}
use Rattle.mlir_parse.proofs.FaultFiles.{file_fault, not_spelled}
use Rattle.mlir_parse.proofs.Counts.{file_kept}
use Rattle.mlir_parse.proofs.file.parse_module.Goals as goal

pub returns-clause-found : goal.returns-clause-found
returns-clause-found c = file_found c.args.bytes.now c.whole.result c.whole.ensures

pub returns-clause-only : goal.returns-clause-only
returns-clause-only c = λ file h. only_by IsModuleFile module_file file_complete c.args.bytes.now c.whole.result file c.whole.ensures h

pub returns-clause-not_spelled : goal.returns-clause-not_spelled
returns-clause-not_spelled c = λ f is file h. not_spelled c.args.bytes.now c.whole.result f c.whole.ensures is file h

pub returns-clause-kinds : goal.returns-clause-kinds
returns-clause-kinds c = λ f is. let told = file_fault c.args.bytes.now c.whole.result f c.whole.ensures is in told.kind

pub returns-clause-within : goal.returns-clause-within
returns-clause-within c = λ f is. let told = file_fault c.args.bytes.now c.whole.result f c.whole.ensures is in told.within

pub returns-clause-limits : goal.returns-clause-limits
returns-clause-limits c = file_kept c.args.bytes.now c.whole.result c.whole.ensures
