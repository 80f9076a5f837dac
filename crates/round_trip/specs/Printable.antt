-- Which types and attributes have a text that spells them (MLIR Language Reference, "Type System" and "Attributes").
-- Each is asked at the number of brackets that may be opened where it is printed.
use Rattle.std.specs.Prelude.{◌≡◌, ℕ, zero, suc, ◌-◌, ◌<◌, ◌≤◌, Bool, true, false, if◌then◌else◌, List, ◌++◌, length, Option, Some, None, Ok, ◌⊎◌, ⊤, IsTrue, IsUtf8}
use Rattle.std.specs.List.{AllByRecursion}
use Rattle.mlir_lexer.specs.declared.token.TokenKind.TheVariants as k
use Rattle.mlir_lexer.specs.Forms.{HasForm}
use Rattle.mlir_lexer.specs.Body.{end_of_body}
use Rattle.mlir_tree.specs.Tree.{Ty, int, index, func, word, Tys, no_tys, ty_then, Attr, unit, int_attr, num, str, sym, of_ty, array, dict, kept, Attrs, no_attrs, attr_then, Entries, no_entries, entry_then}
use Rattle.mlir_tree.specs.Range.{IsInRange, AreRising, entry_names}
use Rattle.mlir_print.specs.Text.{stands_bare}
use Rattle.mlir_attributes.specs.Aliases.{has_point}
use Rattle.mlir_attributes.specs.Types.{is_other_word, is_kept_word, max_width, max_open, opens_body}
use Rattle.mlir_attributes.specs.Numbers.{is_hex, is_integral}
use Rattle.mlir_attributes.specs.Attributes.{signed_text}
use Rattle.mlir_attributes.specs.TypeGrammar.{IsPlainWord}

abbrev pub AreBytes : List ℕ → Type 0
AreBytes text = AllByRecursion (λ b. b < 256) text

-- ---- texts that are kept as they are written

-- A body from its `<` up to the `>` that closes it, and nothing else.
pub record IsWholeBody (room : ℕ) (body : List ℕ) : Type 0 where
  pub opens : IsTrue (opens_body body 0)
  pub some : 0 < room
  pub ends : end_of_body body 0 (max_open - room) ≡ Ok (length body)

-- a front, and a body directly behind it
abbrev pub HasWholeBody : (List ℕ → Type 0) → ℕ → List ℕ → Type 0
HasWholeBody IsFront room text = (front body : List ℕ) × IsFront front × IsWholeBody room body × (front ++ body ≡ text)

-- a word with which no attribute begins, or `!` and a name
abbrev pub IsTypeFront : List ℕ → Type 0
IsTypeFront front = (HasForm k.Word front × (is_other_word front ≡ false)) ⊎ HasForm k.Bang front

-- A word that is no other type, `!` and a name with a point, or one of these fronts with a body.
abbrev pub IsTypeWord : ℕ → List ℕ → Type 0
IsTypeWord room text =
    (HasForm k.Word text × IsPlainWord text) ⊎ ((HasForm k.Bang text × (has_point text ≡ true)) ⊎ HasWholeBody IsTypeFront room text)

-- a word that begins a kept attribute, or `#` and a name
abbrev pub IsAttrFront : List ℕ → Type 0
IsAttrFront front = (HasForm k.Word front × (is_kept_word front ≡ true)) ⊎ HasForm k.Hash front

-- One of these fronts with a body, or `#` and a name with a point.
abbrev pub IsAttrWord : ℕ → List ℕ → Type 0
IsAttrWord room text = HasWholeBody IsAttrFront room text ⊎ (HasForm k.Hash text × (has_point text ≡ true))

-- Perhaps `-`, and a float or a hexadecimal number.
abbrev pub IsNumberText : List ℕ → Type 0
IsNumberText written =
    (neg float : Bool) × (text : List ℕ) × HasForm (if float then k.Float else k.Integer) text × ((float ≡ true) ⊎ (is_hex text ≡ true)) × (signed_text neg text ≡ written)

-- ---- types

abbrev mutual
  pub IsPrintableTy : ℕ → Ty → Type 0
  IsPrintableTy room (int g w) = w ≤ max_width
  IsPrintableTy room index = ⊤
  IsPrintableTy room (word text) = IsTypeWord room text × IsUtf8 text
  IsPrintableTy zero (func xs ys) = ⊥
  IsPrintableTy (suc room) (func xs ys) = ArePrintableTys room xs × ArePrintableTys (if stands_bare ys then suc room else room) ys

  pub ArePrintableTys : ℕ → Tys → Type 0
  ArePrintableTys room no_tys = ⊤
  ArePrintableTys room (ty_then t ts) = IsPrintableTy room t × ArePrintableTys room ts

-- ---- attributes

abbrev pub IsTyped : ℕ → Option Ty → Type 0
IsTyped room None = ⊤
IsTyped room (Some t) = IsPrintableTy room t

abbrev mutual
  pub IsPrintableAttr : ℕ → Attr → Type 0
  IsPrintableAttr room unit = ⊤
  IsPrintableAttr room (int_attr n t) = IsInRange t n
  IsPrintableAttr room (num text t) = IsNumberText text × (is_integral t ≡ false) × IsPrintableTy room t
  IsPrintableAttr room (str bytes t) = AreBytes bytes × IsTyped room t
  IsPrintableAttr room (sym names) = (0 < length names) × AllByRecursion AreBytes names
  IsPrintableAttr room (of_ty t) = IsPrintableTy room t
  IsPrintableAttr room (kept text t) = IsAttrWord room text × IsUtf8 text × IsTyped room t
  IsPrintableAttr zero (array xs) = ⊥
  IsPrintableAttr (suc room) (array xs) = ArePrintableAttrs room xs
  IsPrintableAttr zero (dict es) = ⊥
  IsPrintableAttr (suc room) (dict es) = AreRising (entry_names es) × ArePrintableEntries room es

  pub ArePrintableAttrs : ℕ → Attrs → Type 0
  ArePrintableAttrs room no_attrs = ⊤
  ArePrintableAttrs room (attr_then x xs) = IsPrintableAttr room x × ArePrintableAttrs room xs

  pub ArePrintableEntries : ℕ → Entries → Type 0
  ArePrintableEntries room no_entries = ⊤
  ArePrintableEntries room (entry_then name x es) = AreBytes name × IsPrintableAttr room x × ArePrintableEntries room es
