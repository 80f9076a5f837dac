-- What follows from the grammars of types, attributes and modules.
use Rattle.std.specs.Prelude.{◌≡◌, ◌↔◌, ℕ, List, Ok, IsUtf8}
use Rattle.mlir_tree.specs.Tree.{Ty, Attr}
use Rattle.mlir_attributes.specs.TypeGrammar.{IsTypeText}
use Rattle.mlir_attributes.specs.AttributeGrammar.{IsAttrText}
use Rattle.mlir_attributes.specs.Types.{type_of}
use Rattle.mlir_attributes.specs.Attributes.{attr_of}
use Rattle.mlir_parse.specs.declared.syn.Syn.{Syn}
use Rattle.mlir_parse.specs.FileGrammar.{IsModuleFile}
use Rattle.mlir_parse.specs.ModuleFile.{module_file}

-- No text spells two types, attributes or modules.
abbrev pub TypesSpelledOnce : Type 0
TypesSpelledOnce = (bytes : List ℕ) (t u : Ty) → IsTypeText bytes t → IsTypeText bytes u → t ≡ u

abbrev pub AttributesSpelledOnce : Type 0
AttributesSpelledOnce = (bytes : List ℕ) (x y : Attr) → IsAttrText bytes x → IsAttrText bytes y → x ≡ y

abbrev pub ModulesSpelledOnce : Type 0
ModulesSpelledOnce = (bytes : List ℕ) (file other : Syn) → IsModuleFile bytes file → IsModuleFile bytes other → file ≡ other

-- What reading gives is what is spelled.
abbrev pub TypesAreRead : Type 0
TypesAreRead = (bytes : List ℕ) (t : Ty) → IsUtf8 bytes → (type_of bytes ≡ Ok t) ↔ IsTypeText bytes t

abbrev pub AttributesAreRead : Type 0
AttributesAreRead = (bytes : List ℕ) (x : Attr) → IsUtf8 bytes → (attr_of bytes ≡ Ok x) ↔ IsAttrText bytes x

abbrev pub ModulesAreRead : Type 0
ModulesAreRead = (bytes : List ℕ) (file : Syn) → (module_file bytes ≡ Ok file) ↔ IsModuleFile bytes file
