-- Attributes as keys of a map: equality by the order, and what is hashed.
use Rattle.std.proofs.Common.{◌≡◌, ℕ, suc, ◌-◌, true, List, [], ◌∷◌, length, refl, ap}
use Rattle.std.specs.Prelude.{slice_get}
use Rattle.std.specs.Option.{option_map_or}
use Rattle.std.specs.Hash as fed
use Rattle.std.specs.Cmp.{IsEquivalence, IsPartialEquivalence, partial_equiv_from_equiv, eq_by_cmp_equiv}
use Rattle.std.specs.Ordering.{eq_by_cmp}
use Rattle.mlir_tree.specs.Tree.{Attr, unit, int_attr, num, str, sym, of_ty, array, dict, kept, Attrs, no_attrs, attr_then, attrs, Entries, no_entries, entry_then, entries}
use Rattle.mlir_tree.specs.Order.{attr_cmp}
use Rattle.mlir_tree.specs.Codes.{attr_total, attr_same, is_equal}
use Rattle.mlir_tree.specs.TyKeys.{ty_input}

-- How many attributes or entries there are.
abbrev pub attrs_count : Attrs → ℕ
attrs_count no_attrs = 0
attrs_count (attr_then x xs) = suc (attrs_count xs)

abbrev pub entries_count : Entries → ℕ
entries_count no_entries = 0
entries_count (entry_then n x xs) = suc (entries_count xs)

pub attrs_counted : (xs : List Attr) → attrs_count (attrs xs) ≡ length xs
attrs_counted [] = refl
attrs_counted (x ∷ xs) = ap suc (attrs_counted xs)

pub entries_counted : (xs : List (List ℕ × Attr)) → entries_count (entries xs) ≡ length xs
entries_counted [] = refl
entries_counted (x ∷ xs) = ap suc (entries_counted xs)

-- The innermost name of a symbol reference.
abbrev pub last_input : List (List ℕ) → List (List ℕ)
last_input names = option_map_or (λ name. name ∷ []) (slice_get names (length names - 1)) (fed.u8 4)

-- The magnitude, the text, the innermost name, the type, the count, or the kind alone.
abbrev pub attr_input : Attr → List (List ℕ)
attr_input unit = fed.u8 0
attr_input (int_attr n t) = fed.u128 n.mag
attr_input (num s t) = s ∷ []
attr_input (str s t) = s ∷ []
attr_input (sym names) = last_input names
attr_input (of_ty t) = ty_input t
attr_input (array xs) = fed.usize (attrs_count xs)
attr_input (dict es) = fed.usize (entries_count es)
attr_input (kept s t) = s ∷ []

pub attr_equivalence : IsEquivalence (eq_by_cmp attr_cmp)
attr_equivalence = eq_by_cmp_equiv attr_total

pub attr_partial : IsPartialEquivalence (eq_by_cmp attr_cmp)
attr_partial = partial_equiv_from_equiv attr_equivalence

pub attr_alike : (x y : Attr) → eq_by_cmp attr_cmp x y ≡ true → attr_input x ≡ attr_input y
attr_alike x y h = ap attr_input (attr_same x y (is_equal (attr_cmp x y) h))
