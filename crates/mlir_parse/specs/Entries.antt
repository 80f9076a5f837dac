-- Dictionaries with the places of their names, read from the front of a text.
use Rattle.std.specs.Prelude.{ℕ, zero, suc, Bool, if◌then◌else◌, List, [], map, Vec}
use Rattle.std.specs.Option.{is_some}
use Rattle.std.specs.BTreeMap.{BTreeMap, insert_entry, is_at}
use Rattle.std.specs.Map.{lookup}
use Rattle.std.specs.declared.alloc.Global.{Global}
use Rattle.mlir_lexer.specs.declared.token.TokenKind.TheVariants as k
use Rattle.mlir_tree.specs.Tree.{Attr}
use Rattle.mlir_tree.specs.Order.{text_cmp}
use Rattle.mlir_attributes.specs.declared.fault.ModKind.TheVariants as faults
use Rattle.mlir_attributes.specs.declared.aliases.Alias.{Alias}
use Rattle.mlir_parse.specs.declared.syn.SynEntry.{SynEntry}
use Rattle.mlir_attributes.specs.Place.{left}
use Rattle.mlir_attributes.specs.Input.{Parser, ◌>>=◌, pure, refuse, fail_at, here, see, eat}
use Rattle.mlir_attributes.specs.Attributes.{attr, entry_name, entry_value}
use Rattle.mlir_attributes.specs.Steps.{bracketed, listed}

-- A name with its place and its attribute.
abbrev pub Placed : Type 0
Placed = List ℕ × (ℕ × Attr)

-- The name stands there.
abbrev pub is_placed : List ℕ → List Placed → Bool
is_placed name found = is_some (lookup (is_at (text_cmp name)) found)

-- The entries with one more, in its place by its name.
abbrev pub put_placed : List ℕ → ℕ → Attr → List Placed → List Placed
put_placed name at value found = insert_entry text_cmp found name (at, value)

abbrev pub syn_entry : Placed → SynEntry
syn_entry e = record { at = e.1.0; name = e.0; value = e.1.1 }

-- The entries of a map whose keys are vectors of bytes.
abbrev pub placed_of : Vec ℕ Global × (ℕ × Attr) → Placed
placed_of e = (e.0.items, e.1)

abbrev pub all_placed : BTreeMap (Vec ℕ Global) (ℕ × Attr) → List Placed
all_placed found = map placed_of found.entries

-- One or more entries with commas between, besides those that were found. The number bounds the turns.
unfoldable pub placed_entries : Parser Attr → ℕ → List Placed → Parser (List SynEntry)
placed_entries value zero found = refuse
placed_entries value (suc n) found = do
  at ← here
  name ← entry_name
  if is_placed name found then fail_at faults.DictTwice at else (do
    x ← entry_value value
    more ← eat k.Comma
    if more then placed_entries value n (put_placed name at x found) else pure (map syn_entry (put_placed name at x found)))

abbrev pub all_placed_entries : Parser Attr → Parser (List SynEntry)
all_placed_entries value = λ s. placed_entries value (left s) [] s

module _ (aliases : List Alias) where
  abbrev pub dictionary_inside : ℕ → Parser (List SynEntry)
  dictionary_inside room = listed k.RightBrace (all_placed_entries (attr aliases room))

  -- a dictionary
  unfoldable pub dictionary : ℕ → Parser (List SynEntry)
  dictionary room = bracketed k.LeftBrace k.RightBrace dictionary_inside room

  -- a dictionary, where one is written
  unfoldable pub maybe_dictionary : ℕ → Parser (List SynEntry)
  maybe_dictionary room = do
    written ← see k.LeftBrace
    if written then dictionary room else pure []

  -- a dictionary in angles, where one is written
  unfoldable pub maybe_properties : ℕ → Parser (List SynEntry)
  maybe_properties room = do
    written ← see k.Less
    if written then bracketed k.Less k.Greater dictionary room else pure []
