-- Attributes, read from the front of a text.
use Rattle.std.specs.Prelude.{ℕ, zero, suc, Bool, true, false, if◌then◌else◌, ◌||◌, ◌==◌, ◌&&◌, not, nat_lt, List, [], ◌∷◌, drop, slice_index, Option, Some, None, Result, Ok, Err, codes}
use Rattle.std.specs.Str.{bytes_eq}
pub use Rattle.text_scan.specs.Strings.{string_value}
use Rattle.mlir_lexer.specs.declared.token.TokenKind.{TokenKind}
use Rattle.mlir_lexer.specs.declared.token.TokenKind.TheVariants as k
use Rattle.mlir_tree.specs.declared.sign.Sign.TheVariants.{Signless}
use Rattle.mlir_tree.specs.declared.number.Number.{Number}
use Rattle.mlir_tree.specs.Tree.{Ty, int, word, Attr, unit, int_attr, num, str, sym, of_ty, array, dict, kept, attrs, entries as as_entries}
use Rattle.mlir_attributes.specs.declared.fault.ModFault.{ModFault}
use Rattle.mlir_attributes.specs.declared.fault.ModKind.{ModKind}
use Rattle.mlir_attributes.specs.declared.fault.ModKind.TheVariants as faults
use Rattle.mlir_attributes.specs.declared.aliases.Alias.{Alias}
use Rattle.mlir_attributes.specs.Place.{Place, left, fault, start, start_of}
use Rattle.mlir_attributes.specs.Input.{Outcome, Parser, ◌>>=◌, ◌>>◌, ◌<$>◌, pure, lift, see, fail_at, fail, refuse, peek, here, ahead, take_token, after, eat, expect, separated, list}
use Rattle.mlir_attributes.specs.Aliases.{find, attr_meant, has_point}
use Rattle.mlir_attributes.specs.Types.{is_kept_word, kept as kept_text, use_alias, word_type, bang_type, ty, max_open, whole}
use Rattle.mlir_attributes.specs.Numbers.{if_short, is_hex, token_value, signed, value_at, is_wide, is_integral}
use Rattle.mlir_attributes.specs.Complete.{is_complete_type}
use Rattle.mlir_attributes.specs.Dictionary.{has_name, put_entry}

-- ---- numbers

-- `true` is the value -1 of type `i1`, and `false` its value 0
abbrev pub truth : Bool → Attr
truth b = int_attr (record { neg = b; mag = if b then 1 else 0 }) (int Signless 1)

-- the type of a number where none is written
abbrev pub number_type : Bool → Ty
number_type float = if float then word (codes "f64") else int Signless 64

abbrev pub signed_text : Bool → List ℕ → List ℕ
signed_text neg text = if neg then 45 ∷ text else text

abbrev pub int_of : ℕ → Ty → Option Number → Result Attr ModFault
int_of at t (Some n) = Ok (int_attr n t)
int_of at t None = Err (fault faults.IntRange at)

abbrev pub value_of : Ty → Bool → Option ℕ → Option Number
value_of t neg (Some mag) = value_at t (signed neg mag)
value_of t neg None = None

-- The attribute of a number that begins at `at` and whose type begins at `ty_at`.
unfoldable pub number_of : ℕ → ℕ → Bool → Bool → List ℕ → Ty → Result Attr ModFault
number_of at ty_at neg float text t =
    if is_wide t then Err (fault faults.WideInt ty_at)
    else (if is_integral t then (if float then Err (fault faults.IntRange at) else int_of at t (value_of t neg (if_short (token_value text))))
    else (if float || is_hex text then Ok (num (signed_text neg text) t) else Err (fault faults.IntRange at)))

abbrev pub float_by : Option TokenKind → Parser Bool
float_by (Some k.Integer) = pure false
float_by (Some k.Float) = pure true
float_by _ = refuse

-- whether the next token is a float and not an integer
abbrev pub number_kind : Parser Bool
number_kind = peek >>= float_by

-- the faults that a type may have whose tokens are all there
abbrev pub is_inner : ModKind → Bool
is_inner faults.WideInt = true
is_inner faults.AliasUnknown = true
is_inner faults.TooMany = true
is_inner _ = false

-- The fault of a decimal integer that begins at `at`, where the type at this place has this fault: one that stands inside the
-- type comes behind the integer's own, which is there as soon as the type is neither an integer type nor `index`.
unfoldable pub number_fault : ℕ → Place → ModFault → ModFault
number_fault at s f = if (is_inner f.kind && nat_lt (start s) f.at) && is_complete_type s then fault faults.IntRange at else f

abbrev pub or_number_fault : {A : Type 0} → Bool → ℕ → Place → Outcome A → Outcome A
or_number_fault decimal at s (Ok p) = Ok p
or_number_fault decimal at s (Err f) = Err (if decimal then number_fault at s f else f)

abbrev pub is_decimal : Bool → List ℕ → Bool
is_decimal float text = not (float || is_hex text)

-- ---- names

-- The name of a symbol by its token: what stands behind the `@`, and of a string what it stands for.
abbrev pub symbol_name : List ℕ → List ℕ
symbol_name text = if slice_index text 1 == 34 then string_value (drop 1 text) else drop 1 text

unfoldable pub symbol : Parser (List ℕ)
symbol = do
  is ← see k.Symbol
  if is then symbol_name <$> take_token else refuse

abbrev pub entry_name_by : Option TokenKind → Parser (List ℕ)
entry_name_by (Some k.Word) = take_token
entry_name_by (Some k.String) = string_value <$> take_token
entry_name_by _ = refuse

abbrev pub entry_name : Parser (List ℕ)
entry_name = peek >>= entry_name_by

-- ---- attributes

-- ---- within brackets; `inner` reads attributes one bracket deeper

module _ (inner : Parser Attr) where
  -- what stands behind an entry's name: `=` and an attribute, or nothing
  unfoldable pub entry_value : Parser Attr
  entry_value = do
    more ← eat k.Equal
    if more then inner else pure unit

  -- One or more entries with commas between, besides those that were found. The number bounds the turns.
  unfoldable pub entries : ℕ → List (List ℕ × Attr) → Parser (List (List ℕ × Attr))
  entries zero found = refuse
  entries (suc n) found = do
    at ← here
    name ← entry_name
    if has_name name found then fail_at faults.DictTwice at else (do
      value ← entry_value
      more ← eat k.Comma
      if more then entries n (put_entry name value found) else pure (put_entry name value found))

  abbrev pub all_entries : Parser (List (List ℕ × Attr))
  all_entries = λ s. entries (left s) [] s

  -- A dictionary's entries, behind its first bracket.
  unfoldable pub dictionary : Parser (List (List ℕ × Attr))
  dictionary = do
    empty ← eat k.RightBrace
    if empty then pure [] else (do es ← all_entries; expect k.RightBrace; pure es)

  unfoldable pub array_attr : Parser Attr
  array_attr = (λ xs. array (attrs xs)) <$> list k.RightBracket inner

  unfoldable pub dict_attr : Parser Attr
  dict_attr = (λ es. dict (as_entries es)) <$> dictionary

module _ (aliases : List Alias) where
  -- a type behind `:`, where one is written
  unfoldable pub typed : ℕ → Parser (Option Ty)
  typed room = do
    more ← eat k.Colon
    if more then Some <$> ty aliases room else pure None

  -- the type of a number, and where it begins
  unfoldable pub typed_number : ℕ → Bool → Parser (ℕ × Ty)
  typed_number room float = do
    more ← eat k.Colon
    at ← here
    if more then ((λ t. (at, t)) <$> ty aliases room) else pure (at, number_type float)

  -- The type of a number of this text, which begins at `at`.
  unfoldable pub fitting_type : ℕ → ℕ → Bool → List ℕ → Parser (ℕ × Ty)
  fitting_type room at float text = λ s. or_number_fault (is_decimal float text) at (after k.Colon s) (typed_number room float s)

  -- A number, behind its sign. The whole begins at `at`.
  unfoldable pub number : ℕ → ℕ → Bool → Parser Attr
  number room at neg = do
    float ← number_kind
    text ← take_token
    t ← fitting_type room at float text
    lift (number_of at t.0 neg float text t.1)

  -- a string
  unfoldable pub string : ℕ → Parser Attr
  string room = do
    text ← take_token
    t ← typed room
    pure (str (string_value text) t)

  -- A kept attribute that begins with this text, whose body is next.
  unfoldable pub kept_attr : List ℕ → ℕ → Parser Attr
  kept_attr front room = do
    text ← kept_text aliases front room
    t ← typed room
    pure (kept text t)

  -- A kept attribute that begins with the next token, a word.
  unfoldable pub kept_word : ℕ → Parser Attr
  kept_word room = do
    w ← take_token
    more ← see k.Less
    if more then kept_attr w room else refuse

  -- An attribute that begins with the next token, which is this word.
  unfoldable pub word_attr : ℕ → List ℕ → Parser Attr
  word_attr room w =
      if bytes_eq w (codes "unit") then take_token >> pure unit
      else (if bytes_eq w (codes "true") then take_token >> pure (truth true)
      else (if bytes_eq w (codes "false") then take_token >> pure (truth false)
      else (if is_kept_word w then kept_word room
      else (of_ty <$> word_type aliases room))))

  abbrev pub alias_attr_by : ℕ → ℕ → Option Alias → Parser Attr
  alias_attr_by room at None = fail_at faults.AliasUnknown at
  alias_attr_by room at (Some a) = use_alias room at a (attr_meant a.meaning)

  -- The attribute that an alias of this name stands for, whose use is at this place.
  unfoldable pub alias_attr : ℕ → ℕ → List ℕ → Parser Attr
  alias_attr room at name = alias_attr_by room at (find name aliases)

  -- A kept attribute without a body.
  unfoldable pub pointed : ℕ → List ℕ → Parser Attr
  pointed room name = kept name <$> typed room

  -- An attribute that begins with `#` and a name.
  unfoldable pub hash_attr : ℕ → Parser Attr
  hash_attr room = do
    at ← here
    w ← take_token
    more ← see k.Less
    if more then kept_attr w room else (if has_point w then pointed room w else alias_attr room at w)

  -- ---- an attribute by its first token

  -- one that doesn't begin with a bracket of its own
  abbrev pub flat_by : ℕ → Option TokenKind → Parser Attr
  flat_by room (Some k.Word) = ahead >>= word_attr room
  flat_by room (Some k.Minus) = do at ← here; take_token; number room at true
  flat_by room (Some k.Integer) = here >>= (λ at. number room at false)
  flat_by room (Some k.Float) = here >>= (λ at. number room at false)
  flat_by room (Some k.String) = string room
  flat_by room (Some k.Symbol) = sym <$> (λ s. separated k.ColonColon symbol (left s) [] s)
  flat_by room (Some k.Hash) = hash_attr room
  flat_by room (Some k.Bang) = of_ty <$> bang_type aliases room
  flat_by room (Some k.LeftParen) = of_ty <$> ty aliases room
  flat_by room _ = refuse

  -- `open_array` and `open_dict` read those in brackets
  abbrev pub attr_by : ℕ → Parser Attr → Parser Attr → Option TokenKind → Parser Attr
  attr_by room open_array open_dict (Some k.LeftBracket) = open_array
  attr_by room open_array open_dict (Some k.LeftBrace) = open_dict
  attr_by room open_array open_dict next = flat_by room next

  -- An attribute, where so many brackets may be opened.
  unfoldable pub attr : ℕ → Parser Attr
  attr zero = peek >>= attr_by zero (fail faults.TooMany) (fail faults.TooMany)
  attr (suc room) = peek >>= attr_by (suc room) (take_token >> array_attr (attr room)) (take_token >> dict_attr (attr room))

-- ---- a whole text

-- The attribute that a text without aliases is.
unfoldable pub attr_of : List ℕ → Result Attr ModFault
attr_of bytes = whole (attr [] max_open (start_of bytes))
