-- Alias definitions and module files, read from the front of a text.
use Rattle.std.specs.Prelude.{ℕ, zero, suc, Bool, ◌||◌, ◌==◌, if◌then◌else◌, List, [], ◌∷◌, ◌++◌, length, Result, Ok, Err}
use Rattle.std.specs.Option.{is_some}
use Rattle.std.specs.Str.Lossy.{utf8_valid_len}
use Rattle.mlir_lexer.specs.declared.token.TokenKind.TheVariants as k
use Rattle.mlir_print.specs.Text.{ty_text, attr_text}
use Rattle.mlir_attributes.specs.declared.fault.ModFault.{ModFault}
use Rattle.mlir_attributes.specs.declared.fault.ModKind.TheVariants as faults
use Rattle.mlir_attributes.specs.declared.aliases.Alias.{Alias}
use Rattle.mlir_attributes.specs.declared.aliases.Meaning.{Meaning}
use Rattle.mlir_attributes.specs.declared.aliases.Meaning.TheVariants as meanings
use Rattle.mlir_parse.specs.declared.syn.Syn.{Syn}
use Rattle.mlir_attributes.specs.Place.{Place, left, fault, sees, start_of}
use Rattle.mlir_attributes.specs.Input.{Outcome, Parser, ◌>>=◌, ◌>>◌, ◌<$>◌, pure, lift, refuse, see, here, take_token, expect}
use Rattle.mlir_attributes.specs.Aliases.{find, has_point}
use Rattle.mlir_attributes.specs.Nesting.{nesting}
use Rattle.mlir_attributes.specs.Types.{ty, max_open}
use Rattle.mlir_attributes.specs.Attributes.{attr}
use Rattle.mlir_attributes.specs.Steps.{see_loc, location}
use Rattle.mlir_parse.specs.SynTree.{Operation}
use Rattle.mlir_parse.specs.Operations.{an_operation_in}

-- ---- aliases

-- the printed text of what an alias stands for
abbrev pub meaning_text : Meaning → List ℕ
meaning_text (meanings.Ty t) = ty_text t
meaning_text (meanings.Attr x) = attr_text x
meaning_text meanings.Location = []

abbrev pub alias_of : List ℕ → Meaning → Alias
alias_of name meaning = record { name = name; meaning = meaning; text = meaning_text meaning; brackets = nesting (meaning_text meaning) }

-- A name that may be defined: it has no point, and isn't defined.
unfoldable pub new_name : List Alias → ℕ → List ℕ → Result (Unit {0}) ModFault
new_name aliases at name =
    if has_point name then Err (fault faults.Syntax at) else (if is_some (find name aliases) then Err (fault faults.AliasTwice at) else Ok tt)

-- what is defined by `#`: an attribute or a location
unfoldable pub hash_meaning : List Alias → Parser Meaning
hash_meaning aliases = do
  loc ← see_loc
  if loc then take_token >> (location max_open >> pure meanings.Location) else (meanings.Attr <$> attr aliases max_open)

abbrev pub meaning : List Alias → Bool → Parser Meaning
meaning aliases hash = if hash then hash_meaning aliases else (meanings.Ty <$> ty aliases max_open)

-- a definition, which begins with the next token, `#` or `!` and a name
unfoldable pub alias_definition : List Alias → Parser Alias
alias_definition aliases = do
  hash ← see k.Hash
  at ← here
  name ← take_token
  lift (new_name aliases at name)
  expect k.Equal
  m ← meaning aliases hash
  pure (alias_of name m)

-- ---- files

-- whether a definition begins there
abbrev pub sees_definition : Place → Bool
sees_definition s = sees k.Hash s || sees k.Bang s

abbrev pub see_definition : Parser Bool
see_definition = λ s. Ok (sees_definition s, s)

-- Definitions of aliases and operations up to the end, where these aliases are defined and these operations were found.
-- The number bounds the turns, and each takes a byte.
unfoldable pub file_operations : ℕ → List Alias → List Operation → Parser (List Operation)
file_operations zero aliases found = do
  ends ← see k.End
  if ends then pure found else refuse
file_operations (suc n) aliases found = do
  ends ← see k.End
  if ends then pure found else (do
    defines ← see_definition
    if defines then (alias_definition aliases >>= (λ a. file_operations n (aliases ++ a ∷ []) found)) else (an_operation_in aliases max_open >>= (λ o. file_operations n aliases (found ++ o ∷ []))))

abbrev pub all_operations : Parser (List Operation)
all_operations = λ s. file_operations (left s) [] [] s

abbrev pub file_of : Outcome (List Operation) → Result Syn ModFault
file_of (Ok found) = Ok (record { ops = found.0 })
file_of (Err e) = Err e

-- the module file that bytes spell, which are UTF-8
unfoldable pub file_in : List ℕ → Result Syn ModFault
file_in bytes = file_of (all_operations (start_of bytes))

-- The module file that bytes spell, or the first fault.
unfoldable pub module_file : List ℕ → Result Syn ModFault
module_file bytes = if utf8_valid_len bytes == length bytes then file_in bytes else Err (fault faults.NotUtf8 (utf8_valid_len bytes))
