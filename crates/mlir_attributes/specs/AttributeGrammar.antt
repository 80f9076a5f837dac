-- How attributes are spelled (MLIR Language Reference, "Attributes"; builtin dialect, "IntegerAttr", "StringAttr", "SymbolRefAttr", "ArrayAttr" and "DictionaryAttr").
use Rattle.std.specs.Prelude.{◌≡◌, ℕ, zero, suc, ◌+◌, ◌^◌, Bool, true, false, if◌then◌else◌, List, [], ◌∷◌, ◌++◌, Option, Some, None, ◌⊎◌, ◌↔◌, codes, IsUtf8}
use Rattle.text_scan.specs.Strings.{string_value}
use Rattle.mlir_lexer.specs.declared.token.TokenKind.{TokenKind}
use Rattle.mlir_lexer.specs.declared.token.TokenKind.TheVariants as k
use Rattle.mlir_tree.specs.declared.sign.Sign.TheVariants.{Signless, Signed, Unsigned}
use Rattle.mlir_tree.specs.declared.number.Number.{Number}
use Rattle.mlir_tree.specs.Tree.{Ty, int, index, func, word, Attr, unit, int_attr, num, str, sym, of_ty, array, dict, kept, attrs, entries}
use Rattle.mlir_tree.specs.Range.{IsInRange, AreRising, entry_names}
use Rattle.mlir_attributes.specs.declared.aliases.Alias.{Alias}
use Rattle.mlir_attributes.specs.declared.aliases.Meaning.TheVariants as meanings
use Rattle.mlir_attributes.specs.Place.{Place, start_of}
use Rattle.mlir_attributes.specs.Aliases.{has_point}
use Rattle.mlir_attributes.specs.Types.{is_kept_word, max_open}
use Rattle.mlir_attributes.specs.Numbers.{is_hex, token_value, signed, is_wide, is_integral}
use Rattle.mlir_attributes.specs.Dictionary.{has_name, put_entry}
use Rattle.mlir_attributes.specs.Attributes.{truth, number_type, signed_text, symbol_name}
use Rattle.mlir_attributes.specs.Grammar.{IsSpelled, IsMark, IsNot, IsBody, IsUse}
use Rattle.mlir_attributes.specs.TypeGrammar.{IsTy}

-- ---- numbers

-- A value of a signless type that stands for a number too large for a signed one: both have the same bits.
abbrev pub HasSameBits : Ty → Number → Number → Type 0
HasSameBits (int Signless w) m n = (m.neg ≡ false) × (n.neg ≡ true) × (m.mag + n.mag ≡ 2 ^ w)
HasSameBits (int Signed w) m n = ⊥
HasSameBits (int Unsigned w) m n = ⊥
HasSameBits index m n = ⊥
HasSameBits (func xs ys) m n = ⊥
HasSameBits (word t) m n = ⊥

-- The value that a literal number has at an integer type.
abbrev pub HasValue : Ty → Number → Number → Type 0
HasValue t m n = IsInRange t n × ((m ≡ n) ⊎ HasSameBits t m n)

-- further members of a list, each behind this mark, which doesn't stand behind the last one
abbrev pub AreMore : {A : Type 0} → TokenKind → (Place → A → Place → Type 0) → Place → List A → Place → Type 0
AreMore mark One s [] r = IsNot mark s × (s ≡ r)
AreMore mark One s (x ∷ xs) r = (s1 s2 : Place) × IsMark mark s s1 × One s1 x s2 × AreMore mark One s2 xs r

-- ---- names

abbrev pub IsString : Place → List ℕ → Place → Type 0
IsString s bytes r = (text : List ℕ) × IsSpelled k.String text s r × (string_value text ≡ bytes)

abbrev pub IsSymbol : Place → List ℕ → Place → Type 0
IsSymbol s name r = (text : List ℕ) × IsSpelled k.Symbol text s r × (symbol_name text ≡ name)

-- one or more names with `::` between
abbrev pub AreSymbols : Place → List (List ℕ) → Place → Type 0
AreSymbols s [] r = ⊥
AreSymbols s (n ∷ names) r = (s1 : Place) × IsSymbol s n s1 × AreMore k.ColonColon IsSymbol s1 names r

-- the name of an entry: a word or a string
abbrev pub IsEntryName : Place → List ℕ → Place → Type 0
IsEntryName s name r = IsSpelled k.Word name s r ⊎ IsString s name r

-- ---- within brackets; `Inner` says how an attribute is spelled there

module _ (Inner : Place → Attr → Place → Type 0) where
  -- zero or more with commas between
  abbrev pub AreAttrs : Place → List Attr → Place → Type 0
  AreAttrs s [] r = s ≡ r
  AreAttrs s (x ∷ xs) r = (s1 : Place) × Inner s x s1 × AreMore k.Comma Inner s1 xs r

  -- behind a name: `=` and an attribute, or nothing for unit
  abbrev pub IsBehindName : Place → Attr → Place → Type 0
  IsBehindName m x r = ((m1 : Place) × IsMark k.Equal m m1 × Inner m1 x r) ⊎ (IsNot k.Equal m × (m ≡ r) × (unit ≡ x))

  abbrev pub IsEntry : Place → List ℕ × Attr → Place → Type 0
  IsEntry s e r = (m : Place) × IsEntryName s e.0 m × IsBehindName m e.1 r

  abbrev pub AreEntries : Place → List (List ℕ × Attr) → Place → Type 0
  AreEntries s [] r = s ≡ r
  AreEntries s (e ∷ es) r = (s1 : Place) × IsEntry s e s1 × AreMore k.Comma IsEntry s1 es r

  abbrev pub IsArray : Place → Attr → Place → Type 0
  IsArray s x r = (s1 s2 : Place) × (xs : List Attr) × IsMark k.LeftBracket s s1 × AreAttrs s1 xs s2 × IsMark k.RightBracket s2 r × (array (attrs xs) ≡ x)

-- The entries are put into the map one by one, each under a new name.
abbrev pub Fills : List (List ℕ × Attr) → List (List ℕ × Attr) → List (List ℕ × Attr) → Type 0
Fills found [] all = found ≡ all
Fills found (e ∷ es) all = (has_name e.0 found ≡ false) × Fills (put_entry e.0 e.1 found) es all

-- The entry is one of these.
abbrev pub IsIn : List ℕ × Attr → List (List ℕ × Attr) → Type 0
IsIn e [] = ⊥
IsIn e (d ∷ ds) = (e ≡ d) ⊎ IsIn e ds

-- Law: the map has the entries that were put into it and no others, and their names rise.
abbrev pub KeepsEntries : Type 0
KeepsEntries = (written all : List (List ℕ × Attr)) → Fills [] written all → AreRising (entry_names (entries all)) × ((e : List ℕ × Attr) → IsIn e written ↔ IsIn e all)

-- A dictionary has its entries in the order of their names, and no name twice.
abbrev pub IsDict : (Place → Attr → Place → Type 0) → Place → Attr → Place → Type 0
IsDict Inner s x r =
    (s1 s2 : Place) × (written es : List (List ℕ × Attr)) × IsMark k.LeftBrace s s1 × AreEntries Inner s1 written s2 × IsMark k.RightBrace s2 r × Fills [] written es × (dict (entries es) ≡ x)

module _ (aliases : List Alias) where
  -- `:` and a type, or neither
  abbrev pub IsTyped : ℕ → Place → Option Ty → Place → Type 0
  IsTyped room s None r = IsNot k.Colon s × (s ≡ r)
  IsTyped room s (Some t) r = (m : Place) × IsMark k.Colon s m × IsTy aliases room m t r

  -- A number: perhaps `-`, the token of an integer or a float, and perhaps `:` and a type.
  pub record IsNumber (room : ℕ) (neg float : Bool) (text : List ℕ) (t : Ty) (s r : Place) : Type 0 where
    pub digits : Place
    pub behind : Place
    pub type_is : Option Ty
    pub sign : ((neg ≡ false) × (s ≡ digits)) ⊎ ((neg ≡ true) × IsMark k.Minus s digits)
    pub spelled : IsSpelled (if float then k.Float else k.Integer) text digits behind
    pub typed : IsTyped room behind type_is r
    pub type : (type_is ≡ Some t) ⊎ ((type_is ≡ None) × (number_type float ≡ t))

  -- an integer of an integer type, or `true` or `false`
  abbrev pub IsInt : ℕ → Place → Number → Ty → Place → Type 0
  IsInt room s n t r =
      ((neg : Bool) × (text : List ℕ) × IsNumber room neg false text t s r × (is_wide t ≡ false) × HasValue t (signed neg (token_value text)) n)
      ⊎ ((b : Bool) × IsSpelled k.Word (if b then codes "true" else codes "false") s r × (truth b ≡ int_attr n t))

  -- a float or a hexadecimal number of another type
  abbrev pub IsNum : ℕ → Place → List ℕ → Ty → Place → Type 0
  IsNum room s written t r =
      (neg float : Bool) × (text : List ℕ) × IsNumber room neg float text t s r × (is_integral t ≡ false) × ((float ≡ true) ⊎ (is_hex text ≡ true)) × (signed_text neg text ≡ written)

  -- ---- kept attributes

  -- one of the words that begin a kept attribute, or `#` and a name; and a body
  abbrev pub HasKeptBody : ℕ → List ℕ → Place → Place → Type 0
  HasKeptBody room text s r =
      (front body : List ℕ) × (m m1 : Place) × ((IsSpelled k.Word front s m × (is_kept_word front ≡ true)) ⊎ IsSpelled k.Hash front s m)
      × IsMark k.Less m m1 × IsBody aliases room body m r × (front ++ body ≡ text)

  -- that, or `#` and a name with a point; and perhaps a type
  abbrev pub IsKeptAttr : ℕ → List ℕ → Option Ty → Place → Place → Type 0
  IsKeptAttr room text t s r =
      (m : Place) × (HasKeptBody room text s m ⊎ (IsSpelled k.Hash text s m × (has_point text ≡ true) × IsNot k.Less m)) × IsTyped room m t r

  -- ---- an attribute that is no array and no dictionary

  abbrev pub IsPlainAttr : ℕ → Place → Attr → Place → Type 0
  IsPlainAttr room s unit r = IsSpelled k.Word (codes "unit") s r
  IsPlainAttr room s (int_attr n t) r = IsInt room s n t r
  IsPlainAttr room s (num text t) r = IsNum room s text t r
  IsPlainAttr room s (str bytes t) r = (m : Place) × IsString s bytes m × IsTyped room m t r
  IsPlainAttr room s (sym names) r = AreSymbols s names r
  IsPlainAttr room s (of_ty t) r = IsTy aliases room s t r
  IsPlainAttr room s (array xs) r = ⊥
  IsPlainAttr room s (dict es) r = ⊥
  IsPlainAttr room s (kept text t) r = IsKeptAttr room text t s r

  -- an alias of the attribute: `#` and a name without a point, and no body
  abbrev pub IsAttrAlias : ℕ → Place → Attr → Place → Type 0
  IsAttrAlias room s x r =
      (a : Alias) × (used : IsUse aliases k.Hash room a s r) × (has_point used.name ≡ false) × IsNot k.Less used.behind × (a.meaning ≡ meanings.Attr x)

  -- The number bounds the brackets that may be opened.
  abbrev pub IsAttr : ℕ → Place → Attr → Place → Type 0
  IsAttr zero s x r = IsPlainAttr zero s x r ⊎ IsAttrAlias zero s x r
  IsAttr (suc room) s x r = (IsPlainAttr (suc room) s x r ⊎ IsAttrAlias (suc room) s x r) ⊎ (IsArray (IsAttr room) s x r ⊎ IsDict (IsAttr room) s x r)

-- The whole text is this attribute, and no alias is defined.
pub record IsAttrText (bytes : List ℕ) (x : Attr) : Type 0 where
  pub text : IsUtf8 bytes
  pub end : Place
  pub behind : Place
  pub attr : IsAttr [] max_open (start_of bytes) x end
  pub ends : IsMark k.End end behind
