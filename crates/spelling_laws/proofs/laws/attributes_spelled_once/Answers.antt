use Rattle.mlir_attributes.specs.AttributeGrammar.{IsAttrText}
use Rattle.mlir_attributes.specs.Attributes.{attr_of}
use Rattle.mlir_attributes.proofs.AttrsComplete.{attr_text_complete}
use Rattle.spelling_laws.proofs.Once.{once}
use Rattle.spelling_laws.proofs.laws.attributes_spelled_once.Goals as goal

pub returns : goal.returns
returns c = once IsAttrText attr_of attr_text_complete
