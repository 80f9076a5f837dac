-- The text of types, attributes and strings (MLIR Language Reference, "Type System" and "Attributes"; builtin dialect).
pub use Rattle.std.specs.Prelude.{decimal}
pub use Rattle.mlir_tree.specs.SignText.{sign_text}
use Rattle.std.specs.Prelude.{ℕ, ◌+◌, ◌/◌, ◌%◌, Bool, true, false, not, ◌&&◌, ◌==◌, nat_le, nat_lt, if◌then◌else◌, List, [], ◌∷◌, ◌++◌, codes, Option, Some, None}
use Rattle.std.specs.List.{flat_map, list_all}
use Rattle.text_scan.specs.Bytes.{is_word_start, is_word_byte}
use Rattle.mlir_tree.specs.declared.sign.Sign.{Sign}
use Rattle.mlir_tree.specs.declared.sign.Sign.TheVariants.{Signless, Signed, Unsigned}
use Rattle.mlir_tree.specs.declared.number.Number.{Number}
use Rattle.mlir_tree.specs.Tree.{Ty, int, index, func, word, Tys, no_tys, ty_then, Attr, unit, int_attr, num, str, sym, of_ty, array, dict, kept, Attrs, no_attrs, attr_then, Entries, no_entries, entry_then}

-- ---- strings and names

-- an upper case hexadecimal digit
abbrev pub hex_digit : ℕ → ℕ
hex_digit n = if nat_lt n 10 then 48 + n else 55 + n

-- a byte that is itself inside a string
abbrev pub is_plain : ℕ → Bool
is_plain b = not (b == 92) && (nat_le 32 b && (nat_le b 126 && not (b == 34)))

-- a byte inside a string: a printable character is itself, a backslash two of them, and each other byte two hexadecimal digits
abbrev pub byte_text : ℕ → List ℕ
byte_text b =
    if b == 92 then 92 ∷ 92 ∷ []
    else (if nat_le 32 b && (nat_le b 126 && not (b == 34)) then b ∷ [] else 92 ∷ hex_digit (b / 16) ∷ hex_digit (b % 16) ∷ [])

-- the bytes between quotes
unfoldable pub string_text : List ℕ → List ℕ
string_text bytes = codes "\"" ++ (flat_map byte_text bytes ++ codes "\"")

-- a letter or `_`, then letters, digits, `_`, `$` and `.`
abbrev pub is_bare : List ℕ → Bool
is_bare [] = false
is_bare (b ∷ name) = is_word_start b && list_all is_word_byte name

-- a name is bare where it is a word, else a string
unfoldable pub name_text : List ℕ → List ℕ
name_text name = if is_bare name then name else string_text name

-- ---- types

abbrev pub is_function : Ty → Bool
is_function (func xs ys) = true
is_function _ = false

-- one type that is no function type
abbrev pub stands_bare : Tys → Bool
stands_bare no_tys = false
stands_bare (ty_then t no_tys) = not (is_function t)
stands_bare (ty_then t (ty_then u us)) = false

abbrev pub in_parens : List ℕ → List ℕ
in_parens text = codes "(" ++ (text ++ codes ")")

-- the results of a function type: one type that is no function type, or a list in parentheses
abbrev pub results_by : Bool → List ℕ → List ℕ
results_by bare text = if bare then text else in_parens text

unfoldable mutual
  pub ty_text : Ty → List ℕ
  ty_text (int s w) = sign_text s ++ decimal w
  ty_text index = codes "index"
  ty_text (func xs ys) = codes "(" ++ (tys_text xs ++ (codes ") -> " ++ results_by (stands_bare ys) (tys_text ys)))
  ty_text (word w) = w

  -- types with commas between
  pub tys_text : Tys → List ℕ
  tys_text no_tys = []
  tys_text (ty_then t ts) = ty_text t ++ more_tys_text ts

  -- further types, each behind a comma
  pub more_tys_text : Tys → List ℕ
  more_tys_text no_tys = []
  more_tys_text (ty_then t ts) = codes ", " ++ (ty_text t ++ more_tys_text ts)

-- ---- attributes

abbrev pub number_text : Number → List ℕ
number_text n = if n.neg then codes "-" ++ decimal n.mag else decimal n.mag

-- behind an attribute of a type
abbrev pub colon_type_text : Ty → List ℕ
colon_type_text t = codes " : " ++ ty_text t

abbrev pub typed_text : Option Ty → List ℕ
typed_text None = []
typed_text (Some t) = colon_type_text t

-- the type `i1`
abbrev pub is_bit : Ty → Bool
is_bit (int Signless w) = w == 1
is_bit _ = false

-- `true` is the value -1 of type i1, and `false` its value 0
abbrev pub bit_text : Number → List ℕ
bit_text n = if n.neg then codes "true" else codes "false"

abbrev pub int_text : Number → Ty → List ℕ
int_text n t = if is_bit t then bit_text n else number_text n ++ colon_type_text t

-- `@name` with `::` between
abbrev pub more_symbols_text : List (List ℕ) → List ℕ
more_symbols_text [] = []
more_symbols_text (n ∷ names) = codes "::@" ++ (name_text n ++ more_symbols_text names)

abbrev pub symbols_text : List (List ℕ) → List ℕ
symbols_text [] = []
symbols_text (n ∷ names) = codes "@" ++ (name_text n ++ more_symbols_text names)

abbrev pub is_unit : Attr → Bool
is_unit unit = true
is_unit _ = false

-- an entry is its name alone for unit, else the name and the attribute
abbrev pub entry_by : Bool → List ℕ → List ℕ → List ℕ
entry_by alone name text = if alone then name_text name else name_text name ++ (codes " = " ++ text)

unfoldable mutual
  pub attr_text : Attr → List ℕ
  attr_text unit = codes "unit"
  attr_text (int_attr n t) = int_text n t
  attr_text (num s t) = s ++ colon_type_text t
  attr_text (str s t) = string_text s ++ typed_text t
  attr_text (sym names) = symbols_text names
  attr_text (of_ty t) = ty_text t
  attr_text (array xs) = codes "[" ++ (attrs_text xs ++ codes "]")
  attr_text (dict es) = codes "{" ++ (entries_text es ++ codes "}")
  attr_text (kept s t) = s ++ typed_text t

  -- attributes with commas between
  pub attrs_text : Attrs → List ℕ
  attrs_text no_attrs = []
  attrs_text (attr_then a more) = attr_text a ++ more_attrs_text more

  pub more_attrs_text : Attrs → List ℕ
  more_attrs_text no_attrs = []
  more_attrs_text (attr_then a more) = codes ", " ++ (attr_text a ++ more_attrs_text more)

  -- entries with commas between
  pub entries_text : Entries → List ℕ
  entries_text no_entries = []
  entries_text (entry_then n a more) = entry_by (is_unit a) n (attr_text a) ++ more_entries_text more

  pub more_entries_text : Entries → List ℕ
  more_entries_text no_entries = []
  more_entries_text (entry_then n a more) = codes ", " ++ (entry_by (is_unit a) n (attr_text a) ++ more_entries_text more)
