use Rattle.mlir_attributes.specs.Types.{type_of}
use Rattle.mlir_attributes.specs.TypeGrammar.{IsTypeText}
use Rattle.mlir_attributes.proofs.Whole.{found_by, only_by}
use Rattle.mlir_attributes.proofs.FaultTexts.{type_fault}
use Rattle.mlir_attributes.proofs.TypesSound.{type_sound}
use Rattle.mlir_attributes.proofs.TypesComplete.{type_complete}
use Rattle.mlir_attributes.proofs.parse.parse_ty.Goals as goal

pub returns-in-Ok-clause-found : goal.returns-in-Ok-clause-found
returns-in-Ok-clause-found c = found_by IsTypeText type_of type_sound c.args.bytes.now c.whole_ty.result c.in-Ok.ensures.cases.1 c.whole_ty.ensures

pub returns-in-Ok-clause-only : goal.returns-in-Ok-clause-only
returns-in-Ok-clause-only c = λ t h. only_by IsTypeText type_of type_complete c.args.bytes.now c.whole_ty.result t c.whole_ty.ensures h

pub returns-in-Ok-clause-kinds : goal.returns-in-Ok-clause-kinds
returns-in-Ok-clause-kinds c = λ f is. let told = type_fault c.args.bytes.now c.whole_ty.result f c.whole_ty.ensures is in told.kind

pub returns-in-Ok-clause-within : goal.returns-in-Ok-clause-within
returns-in-Ok-clause-within c = λ f is. let told = type_fault c.args.bytes.now c.whole_ty.result f c.whole_ty.ensures is in told.within
