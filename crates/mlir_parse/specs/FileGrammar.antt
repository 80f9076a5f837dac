-- How alias definitions and module files are spelled (MLIR Language Reference, "Top level productions", "Attribute Value
-- Aliases" and "Type Aliases").
use Rattle.std.specs.Prelude.{◌≡◌, ℕ, false, List, [], ◌∷◌, ◌++◌, None, IsUtf8}
use Rattle.mlir_lexer.specs.declared.token.TokenKind.{TokenKind}
use Rattle.mlir_lexer.specs.declared.token.TokenKind.TheVariants as k
use Rattle.mlir_attributes.specs.declared.aliases.Alias.{Alias}
use Rattle.mlir_attributes.specs.declared.aliases.Meaning.{Meaning}
use Rattle.mlir_attributes.specs.declared.aliases.Meaning.TheVariants as meanings
use Rattle.mlir_parse.specs.declared.syn.Syn.{Syn}
use Rattle.mlir_attributes.specs.Place.{Place, start_of}
use Rattle.mlir_attributes.specs.Aliases.{find, has_point}
use Rattle.mlir_attributes.specs.Types.{max_open}
use Rattle.mlir_attributes.specs.Grammar.{IsSpelled, IsMark}
use Rattle.mlir_attributes.specs.TypeGrammar.{IsTy}
use Rattle.mlir_attributes.specs.AttributeGrammar.{IsAttr}
use Rattle.mlir_parse.specs.SynTree.{Operation}
use Rattle.mlir_parse.specs.OperationGrammar.{IsLocation, IsOperation}
use Rattle.mlir_parse.specs.ModuleFile.{alias_of}

-- `#` and a name stand for an attribute or a location, `!` and a name for a type.
abbrev pub IsMeaning : List Alias → TokenKind → Place → Meaning → Place → Type 0
IsMeaning aliases sort s (meanings.Ty t) r = (sort ≡ k.Bang) × IsTy aliases max_open s t r
IsMeaning aliases sort s (meanings.Attr x) r = (sort ≡ k.Hash) × IsAttr aliases max_open s x r
IsMeaning aliases sort s meanings.Location r = (sort ≡ k.Hash) × IsLocation max_open s r

-- The definition of an alias, where these are defined: a new name without a point, `=`, and what it stands for.
pub record IsDefinition (aliases : List Alias) (s : Place) (a : Alias) (r : Place) : Type 0 where
  pub sort : TokenKind
  pub behind : Place
  pub meant : Place
  pub name : IsSpelled sort a.name s behind
  pub plain : has_point a.name ≡ false
  pub new : find a.name aliases ≡ None
  pub equal : IsMark k.Equal behind meant
  pub meaning : IsMeaning aliases sort meant a.meaning r
  pub is : alias_of a.name a.meaning ≡ a

-- Definitions one after the other, where these aliases are defined.
abbrev pub AreDefinitions : List Alias → Place → List Alias → Place → Type 0
AreDefinitions aliases s [] r = s ≡ r
AreDefinitions aliases s (a ∷ more) r = (s1 : Place) × IsDefinition aliases s a s1 × AreDefinitions (aliases ++ a ∷ []) s1 more r

-- Operations, with definitions before, between and behind them, where these aliases are defined.
abbrev pub AreFileOperations : List Alias → Place → List Operation → Place → Type 0
AreFileOperations aliases s [] r = (new : List Alias) × AreDefinitions aliases s new r
AreFileOperations aliases s (o ∷ os) r =
    (new : List Alias) × (s1 s2 : Place) × AreDefinitions aliases s new s1 × IsOperation (aliases ++ new) max_open s1 o s2
    × AreFileOperations (aliases ++ new) s2 os r

-- The bytes are UTF-8, and their tokens spell these operations.
pub record IsModuleFile (bytes : List ℕ) (file : Syn) : Type 0 where
  pub utf8 : IsUtf8 bytes
  pub end : Place
  pub behind : Place
  pub operations : AreFileOperations [] (start_of bytes) file.ops end
  pub ends : IsMark k.End end behind
