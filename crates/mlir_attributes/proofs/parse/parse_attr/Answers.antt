use Rattle.mlir_attributes.specs.Attributes.{attr_of}
use Rattle.mlir_attributes.specs.AttributeGrammar.{IsAttrText}
use Rattle.mlir_attributes.proofs.Whole.{found_by, only_by}
use Rattle.mlir_attributes.proofs.FaultTexts.{attr_fault}
use Rattle.mlir_attributes.proofs.AttrsSound.{attr_text_sound}
use Rattle.mlir_attributes.proofs.AttrsComplete.{attr_text_complete}
use Rattle.mlir_attributes.proofs.parse.parse_attr.Goals as goal

pub returns-in-Ok-clause-found : goal.returns-in-Ok-clause-found
returns-in-Ok-clause-found c = found_by IsAttrText attr_of attr_text_sound c.args.bytes.now c.whole_attr.result c.in-Ok.ensures.cases.1 c.whole_attr.ensures

pub returns-in-Ok-clause-only : goal.returns-in-Ok-clause-only
returns-in-Ok-clause-only c = λ t h. only_by IsAttrText attr_of attr_text_complete c.args.bytes.now c.whole_attr.result t c.whole_attr.ensures h

pub returns-in-Ok-clause-kinds : goal.returns-in-Ok-clause-kinds
returns-in-Ok-clause-kinds c = λ f is. let told = attr_fault c.args.bytes.now c.whole_attr.result f c.whole_attr.ensures is in told.kind

pub returns-in-Ok-clause-within : goal.returns-in-Ok-clause-within
returns-in-Ok-clause-within c = λ f is. let told = attr_fault c.args.bytes.now c.whole_attr.result f c.whole_attr.ensures is in told.within
