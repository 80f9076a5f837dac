-- How large a type or an attribute is: a measure for recursions.
use Rattle.std.proofs.Common.{◌≡◌, ℕ, zero, suc, ◌+◌, ◌<◌, ◌≤◌, List, [], ◌∷◌, length, get_or, ap, arith}
use denote.Param.Weighed.{most}
use Rattle.mlir_tree.specs.Tree.{Ty, int, index, func, word, Tys, no_tys, ty_then, tys}
use Rattle.mlir_tree.specs.Tree.{Attr, unit, int_attr, num, str, sym, of_ty, array, dict, kept, Attrs, no_attrs, attr_then, attrs, Entries, no_entries, entry_then, entries}

abbrev mutual
  pub ty_size : Ty → ℕ
  ty_size (int s w) = 1
  ty_size index = 1
  ty_size (func xs ys) = tys_size xs + tys_size ys + 1
  ty_size (word t) = 1

  pub tys_size : Tys → ℕ
  tys_size no_tys = 1
  tys_size (ty_then t ts) = ty_size t + 1 + tys_size ts

pub most_tys : (ts : List Ty) → most (λ t. ty_size t + 1) ts ≤ tys_size (tys ts)
most_tys [] = omega arith
most_tys (t ∷ ts) = omega (arith, most_tys ts)

-- an item is smaller than its list
pub ty_at : (ts : List Ty) (i : ℕ) (d : Ty) → i < length ts → ty_size (get_or ts i d) < tys_size (tys ts)
ty_at [] i d h = absurd (omega arith)
ty_at (t ∷ ts) zero d h = omega arith
ty_at (t ∷ ts) (suc i) d h = omega (arith, ty_at ts i d (omega arith))

pub ty_item : (ts : List Ty) (i : ℕ) (t : Ty) → i < length ts → t ≡ get_or ts i t → ty_size t < tys_size (tys ts)
ty_item ts i t h is = omega (arith, ap ty_size is, ty_at ts i t h)

abbrev mutual
  pub attr_size : Attr → ℕ
  attr_size unit = 1
  attr_size (int_attr n t) = 1
  attr_size (num n t) = 1
  attr_size (str n t) = 1
  attr_size (sym ns) = 1
  attr_size (of_ty t) = 1
  attr_size (array xs) = attrs_size xs + 1
  attr_size (dict es) = entries_size es + 1
  attr_size (kept n t) = 1

  pub attrs_size : Attrs → ℕ
  attrs_size no_attrs = 1
  attrs_size (attr_then t ts) = attr_size t + 1 + attrs_size ts

  pub entries_size : Entries → ℕ
  entries_size no_entries = 1
  entries_size (entry_then n t ts) = attr_size t + 1 + entries_size ts

pub most_attrs : (ts : List Attr) → most (λ t. attr_size t + 1) ts ≤ attrs_size (attrs ts)
most_attrs [] = omega arith
most_attrs (t ∷ ts) = omega (arith, most_attrs ts)

pub attr_at : (ts : List Attr) (i : ℕ) (d : Attr) → i < length ts → attr_size (get_or ts i d) < attrs_size (attrs ts)
attr_at [] i d h = absurd (omega arith)
attr_at (t ∷ ts) zero d h = omega arith
attr_at (t ∷ ts) (suc i) d h = omega (arith, attr_at ts i d (omega arith))

pub attr_item : (ts : List Attr) (i : ℕ) (t : Attr) → i < length ts → t ≡ get_or ts i t → attr_size t < attrs_size (attrs ts)
attr_item ts i t h is = omega (arith, ap attr_size is, attr_at ts i t h)

pub entry_at : (ts : List (List ℕ × Attr)) (i : ℕ) (d : List ℕ × Attr) → i < length ts → attr_size (get_or ts i d).1 < entries_size (entries ts)
entry_at [] i d h = absurd (omega arith)
entry_at (t ∷ ts) zero d h = omega arith
entry_at (t ∷ ts) (suc i) d h = omega (arith, entry_at ts i d (omega arith))

pub entry_item : (ts : List (List ℕ × Attr)) (i : ℕ) (t : List ℕ × Attr) → i < length ts → t ≡ get_or ts i t → attr_size t.1 < entries_size (entries ts)
entry_item ts i t h is = omega (arith, ap (λ e. attr_size e.1) is, entry_at ts i t h)
