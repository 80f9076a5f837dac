use Rattle.mlir_attributes.specs.TypeGrammar.{IsTypeText}
use Rattle.mlir_attributes.specs.Types.{type_of}
use Rattle.mlir_attributes.proofs.TypesComplete.{type_complete}
use Rattle.spelling_laws.proofs.Once.{once}
use Rattle.spelling_laws.proofs.laws.types_spelled_once.Goals as goal

pub returns : goal.returns
returns c = once IsTypeText type_of type_complete
