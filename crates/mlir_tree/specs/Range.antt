-- Which numbers an integer type has, and when a dictionary is one (builtin dialect, "IntegerAttr" and "DictionaryAttr").
use Rattle.std.specs.Prelude.{◌≡◌, ℕ, zero, suc, ◌^◌, ◌<◌, ◌≤◌, Bool, true, false, List, [], ◌∷◌, Option, Some, None, ⊤}
use Rattle.std.specs.declared.cmp.Ordering.TheVariants.{Less}
use Rattle.mlir_tree.specs.declared.sign.Sign.TheVariants.{Signless, Signed, Unsigned}
use Rattle.mlir_tree.specs.declared.number.Number.{Number}
use Rattle.mlir_tree.specs.Tree.{Ty, int, index, func, word, Attr, int_attr, num, str, dict, kept, Entries, no_entries, entry_then}
use Rattle.mlir_tree.specs.Order.{text_cmp}

-- A number of two's complement at this many bits, by whether it is negative and its magnitude. Zero isn't negative, and alone has no bits.
abbrev pub IsSignedRange : ℕ → Bool → ℕ → Type 0
IsSignedRange zero negative magnitude = (negative ≡ false) × (magnitude ≡ 0)
IsSignedRange (suc w) true magnitude = (0 < magnitude) × (magnitude ≤ 2 ^ w)
IsSignedRange (suc w) false magnitude = magnitude < 2 ^ w

-- The type is `index` or an integer type of width at most 128, and the number is one of its values.
abbrev pub IsInRange : Ty → Number → Type 0
IsInRange (int Signless w) n = (w ≤ 128) × IsSignedRange w n.neg n.mag
IsInRange (int Signed w) n = (w ≤ 128) × IsSignedRange w n.neg n.mag
IsInRange (int Unsigned w) n = (w ≤ 128) × (n.neg ≡ false) × (n.mag < 2 ^ w)
IsInRange index n = IsSignedRange 64 n.neg n.mag
IsInRange (func xs ys) n = ⊥
IsInRange (word t) n = ⊥

-- Each name is below the next one, so none stands twice.
abbrev pub AreRising : List (List ℕ) → Type 0
AreRising [] = ⊤
AreRising (m ∷ []) = ⊤
AreRising (m ∷ (n ∷ more)) = (text_cmp m n ≡ Less) × AreRising (n ∷ more)

-- The names of the entries, in their order.
abbrev pub entry_names : Entries → List (List ℕ)
entry_names no_entries = []
entry_names (entry_then n x more) = n ∷ entry_names more

-- The type that an attribute carries: that of an integer or a number, and of a string or a kept attribute where it is written.
abbrev pub attr_type : Attr → Option Ty
attr_type (int_attr n t) = Some t
attr_type (num s t) = Some t
attr_type (str s t) = t
attr_type (kept s t) = t
attr_type _ = None

-- What each level of an attribute keeps.
abbrev pub IsSound : Attr → Type 0
IsSound (int_attr n t) = IsInRange t n
IsSound (dict es) = AreRising (entry_names es)
IsSound _ = ⊤
