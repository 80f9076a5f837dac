-- Types and attributes that are printable but for the limit of brackets, and printable where this limit is kept.
use Rattle.std.proofs.Common.{◌≡◌, ℕ, zero, suc, ◌-◌, ◌<◌, ◌≤◌, Bool, true, false, not, if◌then◌else◌, List, [], ◌∷◌, ◌++◌, length, refl, ap, sym, subst, ◌∙◌, arith, inl, inr, eqb-true, Ok}
use Rattle.std.specs.Prelude.{◌==◌, ◌⊎◌, IsUtf8, Option, Some, None}
use Rattle.std.specs.List.{AllByRecursion}
use Rattle.text_scan.specs.Bytes.{AllAre, is_digit, is_word_start, is_word_byte, is_suffix_byte}
use Rattle.mlir_lexer.specs.declared.token.TokenKind.TheVariants as k
use Rattle.mlir_lexer.specs.Forms.{HasForm, IsSuffix, is_suffix_start}
use Rattle.mlir_lexer.specs.Body.{body}
use Rattle.mlir_tree.specs.Tree.{Ty, int, index, func, word, Tys, no_tys, ty_then, Attr, unit, int_attr, num, str, sym as symbols, of_ty, array, dict, kept, Attrs, no_attrs, attr_then, Entries, no_entries, entry_then}
use Rattle.mlir_tree.specs.Range.{IsInRange, AreRising, entry_names}
use Rattle.mlir_print.specs.Text.{stands_bare}
use Rattle.mlir_attributes.specs.Aliases.{has_point}
use Rattle.mlir_attributes.specs.Types.{max_width, max_open}
use Rattle.mlir_attributes.specs.Numbers.{is_integral}
use Rattle.mlir_attributes.specs.TypeGrammar.{IsPlainWord}
use Rattle.mlir_attributes.specs.Nesting.{nesting}
use Rattle.round_trip.specs.Printable.{AreBytes, IsNumberText, IsWholeBody, HasWholeBody, IsTypeFront, IsTypeWord, IsAttrFront, IsAttrWord, IsTyped, IsPrintableTy, ArePrintableTys, IsPrintableAttr, ArePrintableAttrs, ArePrintableEntries}
use Rattle.round_trip.specs.Brackets.{IsTyWithin, AreTysWithin, IsTypeWithin, IsAttrWithin, AreAttrsWithin, AreEntriesWithin}
use Rattle.round_trip.proofs.Nesting.{IsOuter, narrow_body}

-- ---- texts that are kept as they are written

-- A body that ends where the text ends, where some number of brackets may be opened.
pub record IsSoundBody (text : List ℕ) : Type 0 where
  pub second : ℕ
  pub more : List ℕ
  pub is : text ≡ 60 ∷ second ∷ more
  pub other : (second == 61) ≡ false
  pub limit : ℕ
  pub ends : body limit (62 ∷ []) false 0 1 (second ∷ more) ≡ Ok (length (60 ∷ second ∷ more))

abbrev pub HasSoundBody : (List ℕ → Type 0) → List ℕ → Type 0
HasSoundBody IsFront text = (front body : List ℕ) × IsFront front × IsSoundBody body × (front ++ body ≡ text)

abbrev pub IsSoundWord : List ℕ → Type 0
IsSoundWord text =
    (HasForm k.Word text × IsPlainWord text) ⊎ ((HasForm k.Bang text × (has_point text ≡ true)) ⊎ HasSoundBody IsTypeFront text)

abbrev pub IsSoundKept : List ℕ → Type 0
IsSoundKept text = HasSoundBody IsAttrFront text ⊎ (HasForm k.Hash text × (has_point text ≡ true))

-- ---- types and attributes

abbrev mutual
  pub IsSoundTy : Ty → Type 0
  IsSoundTy (int g w) = w ≤ max_width
  IsSoundTy index = Unit {0}
  IsSoundTy (word text) = IsSoundWord text × IsUtf8 text
  IsSoundTy (func xs ys) = AreSoundTys xs × AreSoundTys ys

  pub AreSoundTys : Tys → Type 0
  AreSoundTys no_tys = Unit {0}
  AreSoundTys (ty_then t ts) = IsSoundTy t × AreSoundTys ts

abbrev pub IsSoundType : Option Ty → Type 0
IsSoundType None = Unit {0}
IsSoundType (Some t) = IsSoundTy t

abbrev mutual
  pub IsSoundAttr : Attr → Type 0
  IsSoundAttr unit = Unit {0}
  IsSoundAttr (int_attr n t) = IsInRange t n
  IsSoundAttr (num text t) = IsNumberText text × (is_integral t ≡ false) × IsSoundTy t
  IsSoundAttr (str bytes t) = AreBytes bytes × IsSoundType t
  IsSoundAttr (symbols names) = (0 < length names) × AllByRecursion AreBytes names
  IsSoundAttr (of_ty t) = IsSoundTy t
  IsSoundAttr (kept text t) = IsSoundKept text × IsUtf8 text × IsSoundType t
  IsSoundAttr (array xs) = AreSoundAttrs xs
  IsSoundAttr (dict es) = AreRising (entry_names es) × AreSoundEntries es

  pub AreSoundAttrs : Attrs → Type 0
  AreSoundAttrs no_attrs = Unit {0}
  AreSoundAttrs (attr_then x xs) = IsSoundAttr x × AreSoundAttrs xs

  pub AreSoundEntries : Entries → Type 0
  AreSoundEntries no_entries = Unit {0}
  AreSoundEntries (entry_then name x es) = AreBytes name × IsSoundAttr x × AreSoundEntries es

-- ---- fronts have no brackets

outer_by : (b : ℕ) → (b ≡ 34 → ⊥) → (b ≡ 40 → ⊥) → (b ≡ 41 → ⊥) → (b ≡ 60 → ⊥) → (b ≡ 62 → ⊥) → (b ≡ 91 → ⊥) → (b ≡ 93 → ⊥) → (b ≡ 123 → ⊥) → (b ≡ 125 → ⊥) → IsOuter b
outer_by b q r cr l g s cs c cc0 = record {
  quote = no 34 q;
  round = no 40 r;
  close_round = no 41 cr;
  less = no 60 l;
  greater = no 62 g;
  square = no 91 s;
  close_square = no 93 cs;
  brace = no 123 c;
  close_brace = no 125 cc0;
}
  where
    by_test : (n : ℕ) (p : Bool) → b == n ≡ p → (b ≡ n → ⊥) → p ≡ false
    by_test n true is h = absurd (h (eqb-true b n is))
    by_test n false is h = refl

    no : (n : ℕ) → (b ≡ n → ⊥) → (b == n) ≡ false
    no n h = by_test n (b == n) refl h

-- a test that is false of a byte
pub apart : (test : ℕ → Bool) (n b : ℕ) → test n ≡ false → test b ≡ true → b ≡ n → ⊥
apart test n b other is same = let e : true ≡ false = sym is ∙ ap test same ∙ other in cc

pub class_outer : (test : ℕ → Bool) → test 34 ≡ false → test 40 ≡ false → test 41 ≡ false → test 60 ≡ false → test 62 ≡ false → test 91 ≡ false → test 93 ≡ false → test 123 ≡ false → test 125 ≡ false → (b : ℕ) → test b ≡ true → IsOuter b
class_outer test q r cr l g s cs c cc0 b is =
    outer_by b (apart test 34 b q is) (apart test 40 b r is) (apart test 41 b cr is) (apart test 60 b l is) (apart test 62 b g is) (apart test 91 b s is) (apart test 93 b cs is) (apart test 123 b c is) (apart test 125 b cc0 is)

pub all_outer : (test : ℕ → Bool) (text : List ℕ) → ((b : ℕ) → test b ≡ true → IsOuter b) → AllAre test text → AllByRecursion IsOuter text
all_outer test [] one h = tt
all_outer test (b ∷ text) one h = (one b h.0, all_outer test text one h.1)

pub word_byte_outer : (b : ℕ) → is_word_byte b ≡ true → IsOuter b
word_byte_outer = class_outer is_word_byte refl refl refl refl refl refl refl refl refl

pub word_start_outer : (b : ℕ) → is_word_start b ≡ true → IsOuter b
word_start_outer = class_outer is_word_start refl refl refl refl refl refl refl refl refl

pub digit_outer : (b : ℕ) → is_digit b ≡ true → IsOuter b
digit_outer = class_outer is_digit refl refl refl refl refl refl refl refl refl

suffix_byte_outer : (b : ℕ) → is_suffix_byte b ≡ true → IsOuter b
suffix_byte_outer = class_outer is_suffix_byte refl refl refl refl refl refl refl refl refl

suffix_start_outer : (b : ℕ) → is_suffix_start b ≡ true → IsOuter b
suffix_start_outer = class_outer is_suffix_start refl refl refl refl refl refl refl refl refl

pub suffix_outer : (xs : List ℕ) → IsSuffix xs → AllByRecursion IsOuter xs
suffix_outer [] h = absurd h
suffix_outer (b ∷ xs) (inl all) = all_outer is_digit (b ∷ xs) digit_outer all
suffix_outer (b ∷ xs) (inr (start, all)) = (suffix_start_outer b start, all_outer is_suffix_byte xs suffix_byte_outer all)

pub word_outer : (w : List ℕ) → HasForm k.Word w → AllByRecursion IsOuter w
word_outer [] h = absurd h
word_outer (b ∷ w) h = (word_start_outer b h.0, all_outer is_word_byte w word_byte_outer h.1)

literal_outer : (n b : ℕ) → IsOuter n → b ≡ n → IsOuter b
literal_outer n b h same = subst IsOuter (sym same) h

pub bang_outer : (w : List ℕ) → HasForm k.Bang w → AllByRecursion IsOuter w
bang_outer [] h = absurd h
bang_outer (b ∷ w) h = (literal_outer 33 b (record { quote = refl; round = refl; close_round = refl; less = refl; greater = refl; square = refl; close_square = refl; brace = refl; close_brace = refl }) h.0, suffix_outer w h.1)

pub hash_outer : (w : List ℕ) → HasForm k.Hash w → AllByRecursion IsOuter w
hash_outer [] h = absurd h
hash_outer (b ∷ w) h = (literal_outer 35 b (record { quote = refl; round = refl; close_round = refl; less = refl; greater = refl; square = refl; close_square = refl; brace = refl; close_brace = refl }) h.0, suffix_outer w h.1)

pub type_front_outer : (front : List ℕ) → IsTypeFront front → AllByRecursion IsOuter front
type_front_outer front (inl h) = word_outer front h.0
type_front_outer front (inr h) = bang_outer front h

pub attr_front_outer : (front : List ℕ) → IsAttrFront front → AllByRecursion IsOuter front
attr_front_outer front (inl h) = word_outer front h.0
attr_front_outer front (inr h) = hash_outer front h

-- ---- where the limit is kept

narrow_whole : (IsFront : List ℕ → Type 0) → ((front : List ℕ) → IsFront front → AllByRecursion IsOuter front) → (room : ℕ) → room ≤ max_open → (text : List ℕ) → HasSoundBody IsFront text → nesting text ≤ room → HasWholeBody IsFront room text
narrow_whole IsFront outer room most text (front, b, is, h, same) few =
    let all : front ++ 60 ∷ h.second ∷ h.more ≡ text = ap (λ t. front ++ t) (sym h.is) ∙ same in
    let n = narrow_body front h.second h.more h.limit room (outer front is) h.other h.ends (subst (λ t. nesting t ≤ room) (sym all) few) in
    let limit : room ≡ 256 - (max_open - room) = omega (arith, most) in (
      front,
      b,
      is,
      subst (IsWholeBody room) (sym h.is) (record {
        opens = ap not h.other;
        some = n.0;
        ends = subst (λ r. body r (62 ∷ []) false 0 1 (h.second ∷ h.more) ≡ Ok (length (60 ∷ h.second ∷ h.more))) limit n.1;
      }),
      same,
    )

narrow_word : (room : ℕ) → room ≤ max_open → (text : List ℕ) → IsSoundWord text → nesting text ≤ room → IsTypeWord room text
narrow_word room most text (inl h) few = inl h
narrow_word room most text (inr (inl h)) few = inr (inl h)
narrow_word room most text (inr (inr h)) few = inr (inr (narrow_whole IsTypeFront type_front_outer room most text h few))

narrow_kept : (room : ℕ) → room ≤ max_open → (text : List ℕ) → IsSoundKept text → nesting text ≤ room → IsAttrWord room text
narrow_kept room most text (inl h) few = inl (narrow_whole IsAttrFront attr_front_outer room most text h few)
narrow_kept room most text (inr h) few = inr h

bare_room : (bare : Bool) (room : ℕ) → suc room ≤ max_open → (if bare then suc room else room) ≤ max_open
bare_room true room most = most
bare_room false room most = omega (arith, most)

mutual
  pub narrow_ty : (room : ℕ) (t : Ty) → room ≤ max_open → IsSoundTy t → IsTyWithin room t → IsPrintableTy room t
  narrow_ty room (int g w) most h few = h
  narrow_ty room index most h few = tt
  narrow_ty room (word text) most h few = (narrow_word room most text h.0 few, h.1)
  narrow_ty zero (func xs ys) most h few = absurd few
  narrow_ty (suc room) (func xs ys) most h few =
      (narrow_tys room xs (omega (arith, most)) h.0 few.0, narrow_tys (if stands_bare ys then suc room else room) ys (bare_room (stands_bare ys) room most) h.1 few.1)

  pub narrow_tys : (room : ℕ) (ts : Tys) → room ≤ max_open → AreSoundTys ts → AreTysWithin room ts → ArePrintableTys room ts
  narrow_tys room no_tys most h few = tt
  narrow_tys room (ty_then t ts) most h few = (narrow_ty room t most h.0 few.0, narrow_tys room ts most h.1 few.1)

narrow_type : (room : ℕ) (t : Option Ty) → room ≤ max_open → IsSoundType t → IsTypeWithin room t → IsTyped room t
narrow_type room None most h few = tt
narrow_type room (Some t) most h few = narrow_ty room t most h few

mutual
  pub narrow_attr : (room : ℕ) (x : Attr) → room ≤ max_open → IsSoundAttr x → IsAttrWithin room x → IsPrintableAttr room x
  narrow_attr room unit most h few = tt
  narrow_attr room (int_attr n t) most h few = h
  narrow_attr room (num text t) most h few = (h.0, h.1, narrow_ty room t most h.2 few)
  narrow_attr room (str bytes t) most h few = (h.0, narrow_type room t most h.1 few)
  narrow_attr room (symbols names) most h few = h
  narrow_attr room (of_ty t) most h few = narrow_ty room t most h few
  narrow_attr room (kept text t) most h few = (narrow_kept room most text h.0 few.0, h.1, narrow_type room t most h.2 few.1)
  narrow_attr zero (array xs) most h few = absurd few
  narrow_attr (suc room) (array xs) most h few = narrow_attrs room xs (omega (arith, most)) h few
  narrow_attr zero (dict es) most h few = absurd few
  narrow_attr (suc room) (dict es) most h few = (h.0, narrow_entries room es (omega (arith, most)) h.1 few)

  narrow_attrs : (room : ℕ) (xs : Attrs) → room ≤ max_open → AreSoundAttrs xs → AreAttrsWithin room xs → ArePrintableAttrs room xs
  narrow_attrs room no_attrs most h few = tt
  narrow_attrs room (attr_then x xs) most h few = (narrow_attr room x most h.0 few.0, narrow_attrs room xs most h.1 few.1)

  pub narrow_entries : (room : ℕ) (es : Entries) → room ≤ max_open → AreSoundEntries es → AreEntriesWithin room es → ArePrintableEntries room es
  narrow_entries room no_entries most h few = tt
  narrow_entries room (entry_then name x es) most h few = (h.0, narrow_attr room x most h.1 few.0, narrow_entries room es most h.2 few.1)
