-- How types are spelled (MLIR Language Reference, "Type System"; builtin dialect, "IntegerType", "IndexType" and "FunctionType").
use Rattle.std.specs.Prelude.{◌≡◌, ◌≢◌, ℕ, zero, suc, ◌<◌, ◌≤◌, false, true, List, [], ◌++◌, length, slice_index, ◌⊎◌, codes, IsUtf8}
use Rattle.std.specs.Str.Parse.{AllDigits, digits_value}
use Rattle.mlir_lexer.specs.declared.token.TokenKind.TheVariants as k
use Rattle.mlir_tree.specs.declared.sign.Sign.{Sign}
use Rattle.mlir_tree.specs.Tree.{Ty, int, index, func, word, Tys, no_tys, ty_then}
use Rattle.mlir_tree.specs.SignText.{sign_text}
use Rattle.mlir_attributes.specs.declared.aliases.Alias.{Alias}
use Rattle.mlir_attributes.specs.declared.aliases.Meaning.TheVariants as meanings
use Rattle.mlir_attributes.specs.Place.{Place, start_of}
use Rattle.mlir_attributes.specs.Aliases.{has_point}
use Rattle.mlir_attributes.specs.Types.{is_other_word, max_width, max_open}
use Rattle.mlir_attributes.specs.Grammar.{IsSpelled, IsMark, IsNot, IsBody, IsUse}

-- Decimal digits without a leading zero.
pub record IsDecimal (digits : List ℕ) : Type 0 where
  pub digits_are : AllDigits 10 digits
  pub some : 0 < length digits
  pub no_zero : slice_index digits 0 ≡ 48 → length digits ≡ 1

-- `i`, `si` or `ui`, and the width in decimal
abbrev pub IsIntWord : Sign → ℕ → List ℕ → Type 0
IsIntWord g w text = (digits : List ℕ) × IsDecimal digits × (text ≡ sign_text g ++ digits) × (digits_value 10 digits ≡ w)

-- A word that is no other type and begins no attribute.
pub record IsPlainWord (text : List ℕ) : Type 0 where
  pub no_other : is_other_word text ≡ false
  pub no_index : text ≢ codes "index"
  pub no_int : (g : Sign) (w : ℕ) → ¬ IsIntWord g w text

-- A word that isn't one with which attributes begin, or `!` and a name; and a body.
pub record HasBody (aliases : List Alias) (room : ℕ) (text : List ℕ) (s r : Place) : Type 0 where
  pub front : List ℕ
  pub body : List ℕ
  pub between : Place
  pub behind : Place
  pub begins : (IsSpelled k.Word front s between × (is_other_word front ≡ false)) ⊎ IsSpelled k.Bang front s between
  pub opens : IsMark k.Less between behind
  pub goes_on : IsBody aliases room body between r
  pub text_is : front ++ body ≡ text

-- a word, or `!` and a name with a point, without a body; or one with a body
abbrev pub IsKept : List Alias → ℕ → List ℕ → Place → Place → Type 0
IsKept aliases room text s r =
    (IsSpelled k.Word text s r × IsPlainWord text × IsNot k.Less r)
    ⊎ ((IsSpelled k.Bang text s r × (has_point text ≡ true) × IsNot k.Less r) ⊎ HasBody aliases room text s r)

-- a type that is a word, or `!` and a name, perhaps with a body
abbrev pub IsLeaf : List Alias → ℕ → Place → Ty → Place → Type 0
IsLeaf aliases room s (int g w) r = (text : List ℕ) × IsSpelled k.Word text s r × IsIntWord g w text × (w ≤ max_width) × IsNot k.Less r
IsLeaf aliases room s index r = IsSpelled k.Word (codes "index") s r × IsNot k.Less r
IsLeaf aliases room s (func xs ys) r = ⊥
IsLeaf aliases room s (word text) r = IsKept aliases room text s r

module _ (aliases : List Alias) where
  -- an alias of the type: `!` and a name without a point, and no body
  abbrev pub IsTyAlias : ℕ → Place → Ty → Place → Type 0
  IsTyAlias room s t r =
      (a : Alias) × (used : IsUse aliases k.Bang room a s r) × (has_point used.name ≡ false) × IsNot k.Less used.behind × (a.meaning ≡ meanings.Ty t)

  -- a type that isn't written as a function type
  abbrev pub IsPlain : ℕ → Place → Ty → Place → Type 0
  IsPlain room s t r = IsLeaf aliases room s t r ⊎ IsTyAlias room s t r

  abbrev pub IsOne : ℕ → Place → Tys → Place → Type 0
  IsOne room s no_tys r = ⊥
  IsOne room s (ty_then t no_tys) r = IsPlain room s t r
  IsOne room s (ty_then t (ty_then u us)) r = ⊥

  -- The number bounds the brackets that may be opened.
  abbrev mutual
    pub IsTy : ℕ → Place → Ty → Place → Type 0
    IsTy room s (int g w) r = IsPlain room s (int g w) r
    IsTy room s index r = IsPlain room s index r
    IsTy room s (word text) r = IsPlain room s (word text) r
    IsTy zero s (func xs ys) r = IsPlain zero s (func xs ys) r
    IsTy (suc room) s (func xs ys) r =
        IsPlain (suc room) s (func xs ys) r
        ⊎ ((s1 s2 s3 s4 : Place) × IsMark k.LeftParen s s1 × IsTys room s1 xs s2 × IsMark k.RightParen s2 s3 × IsMark k.Arrow s3 s4
        × (IsOne (suc room) s4 ys r ⊎ ((s5 s6 : Place) × IsMark k.LeftParen s4 s5 × IsTys room s5 ys s6 × IsMark k.RightParen s6 r)))

    -- zero or more with commas between
    pub IsTys : ℕ → Place → Tys → Place → Type 0
    IsTys room s no_tys r = s ≡ r
    IsTys room s (ty_then t ts) r = (s1 : Place) × IsTy room s t s1 × IsMoreTys room s1 ts r

    -- further types, each behind a comma
    pub IsMoreTys : ℕ → Place → Tys → Place → Type 0
    IsMoreTys room s no_tys r = s ≡ r
    IsMoreTys room s (ty_then t ts) r = (s1 s2 : Place) × IsMark k.Comma s s1 × IsTy room s1 t s2 × IsMoreTys room s2 ts r

-- The whole text is this type, and no alias is defined.
pub record IsTypeText (bytes : List ℕ) (t : Ty) : Type 0 where
  pub text : IsUtf8 bytes
  pub end : Place
  pub behind : Place
  pub type : IsTy [] max_open (start_of bytes) t end
  pub ends : IsMark k.End end behind
