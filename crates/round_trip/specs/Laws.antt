-- Laws of printing and reading.
use Rattle.std.specs.Prelude.{◌≡◌, ℕ, ◌≤◌, true, List, [], ◌∷◌, length, Ok, IsUtf8}
use Rattle.mlir_lexer.specs.declared.token.TokenKind.TheVariants as k
use Rattle.mlir_tree.specs.declared.rows.Rows.{Rows}
use Rattle.mlir_tree.specs.Tree.{Ty, Attr}
use Rattle.mlir_print.specs.Text.{ty_text, attr_text}
use Rattle.mlir_print.specs.ModuleText.{module_text}
use Rattle.mlir_parse.specs.declared.syn.Syn.{Syn}
use Rattle.mlir_attributes.specs.Place.{Place, start_of}
use Rattle.mlir_attributes.specs.Types.{max_open}
use Rattle.mlir_attributes.specs.Steps.{max_operations}
use Rattle.mlir_attributes.specs.Grammar.{IsMark}
use Rattle.mlir_parse.specs.SynTree.{Operation}
use Rattle.mlir_parse.specs.OperationGrammar.{IsOperation}
use Rattle.mlir_attributes.specs.TypeGrammar.{IsTypeText}
use Rattle.mlir_attributes.specs.AttributeGrammar.{IsAttrText}
use Rattle.mlir_parse.specs.FileGrammar.{IsModuleFile}
use Rattle.mlir_resolve.specs.Laid.{is_module}
use Rattle.mlir_resolve.specs.Resolving.{resolved}
use Rattle.round_trip.specs.Printable.{IsPrintableTy, IsPrintableAttr}
use Rattle.round_trip.specs.PrintableRows.{IsPrintable}
use Rattle.round_trip.specs.Renumbering.{renumbered}
use Rattle.round_trip.specs.Brackets.{IsWithinBrackets}

-- The text of a type spells this type.
abbrev pub TypesReadBack : Type 0
TypesReadBack = (t : Ty) → IsPrintableTy max_open t → IsTypeText (ty_text t) t

-- A type that a text spells is printable.
abbrev pub SpelledTypesArePrintable : Type 0
SpelledTypesArePrintable = (text : List ℕ) (t : Ty) → IsTypeText text t → IsPrintableTy max_open t

-- The text of an attribute spells this attribute.
abbrev pub AttributesReadBack : Type 0
AttributesReadBack = (x : Attr) → IsPrintableAttr max_open x → IsAttrText (attr_text x) x

-- An attribute that a text spells is printable.
abbrev pub SpelledAttributesArePrintable : Type 0
SpelledAttributesArePrintable = (text : List ℕ) (x : Attr) → IsAttrText text x → IsPrintableAttr max_open x

-- The text of a module spells a file.
abbrev pub ModulesAreSpelled : Type 0
ModulesAreSpelled = (m : Rows) → IsPrintable m → (file : Syn) × IsModuleFile (module_text m.rows) file

-- A module that is printed reads back as the same rows with the numbers of their places.
abbrev pub ReadsBack : Type 0
ReadsBack = (m : Rows) → IsPrintable m → (file : Syn) × IsModuleFile (module_text m.rows) file × (resolved file ≡ Ok (renumbered m))

-- The text spells one operation, which is a module, and defines no alias.
pub record IsPlainFile (bytes : List ℕ) (o : Operation) : Type 0 where
  pub utf8 : IsUtf8 bytes
  pub end : Place
  pub behind : Place
  pub spelled : IsOperation [] max_open (start_of bytes) o end
  pub ends : IsMark k.End end behind
  pub is_whole : is_module o ≡ true

-- The rows of such a file are printable.
abbrev pub SpelledRowsArePrintable : Type 0
SpelledRowsArePrintable = (bytes : List ℕ) (o : Operation) (m : Rows) → IsPlainFile bytes o → resolved (record { ops = o ∷ [] }) ≡ Ok m → IsPrintable m

-- What is read from such a file is the same module after it is printed and read again.
abbrev pub ReadsAgain : Type 0
ReadsAgain =
    (bytes : List ℕ) (o : Operation) (m : Rows) → IsPlainFile bytes o → resolved (record { ops = o ∷ [] }) ≡ Ok m
    → (file : Syn) × IsModuleFile (module_text m.rows) file × (resolved file ≡ Ok m)

-- The rows that are read from a file are printable, where their text keeps the limits of operations and brackets.
abbrev pub ReadRowsArePrintable : Type 0
ReadRowsArePrintable =
    (bytes : List ℕ) (file : Syn) (m : Rows) → IsModuleFile bytes file → resolved file ≡ Ok m → length m.rows ≤ max_operations → IsWithinBrackets m → IsPrintable m

-- So they are the same rows after they are printed and read again.
abbrev pub ReadRowsReadBack : Type 0
ReadRowsReadBack =
    (bytes : List ℕ) (file : Syn) (m : Rows) → IsModuleFile bytes file → resolved file ≡ Ok m → length m.rows ≤ max_operations → IsWithinBrackets m
    → (again : Syn) × IsModuleFile (module_text m.rows) again × (resolved again ≡ Ok m)
