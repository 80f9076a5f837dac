-- That the text of a module keeps the limit of brackets (MLIR Language Reference, "Type System" and "Attributes").
-- Each type and attribute is asked at the number of brackets that may be opened where it is printed.
use Rattle.std.specs.Prelude.{ℕ, zero, suc, ◌-◌, ◌≤◌, if◌then◌else◌, List, Option, Some, None, All, IfSome, ⊤}
use Rattle.std.specs.List.{AllByRecursion}
use Rattle.mlir_tree.specs.declared.row.Row.{Row}
use Rattle.mlir_tree.specs.declared.rows.Rows.{Rows}
use Rattle.mlir_tree.specs.Tree.{Ty, int, index, func, word, Tys, no_tys, ty_then, tys, Attr, unit, int_attr, num, str, sym, of_ty, array, dict, kept, Attrs, no_attrs, attr_then, Entries, no_entries, entry_then, entries}
use Rattle.mlir_print.specs.Text.{stands_bare}
use Rattle.mlir_print.specs.ModuleText.{value_type}
use Rattle.mlir_attributes.specs.Nesting.{nesting}
use Rattle.round_trip.specs.PrintableRows.{room_of, brackets_of}

-- ---- types

abbrev mutual
  pub IsTyWithin : ℕ → Ty → Type 0
  IsTyWithin room (int g w) = ⊤
  IsTyWithin room index = ⊤
  IsTyWithin room (word text) = nesting text ≤ room
  IsTyWithin zero (func xs ys) = ⊥
  IsTyWithin (suc room) (func xs ys) = AreTysWithin room xs × AreTysWithin (if stands_bare ys then suc room else room) ys

  pub AreTysWithin : ℕ → Tys → Type 0
  AreTysWithin room no_tys = ⊤
  AreTysWithin room (ty_then t ts) = IsTyWithin room t × AreTysWithin room ts

-- ---- attributes

abbrev pub IsTypeWithin : ℕ → Option Ty → Type 0
IsTypeWithin room None = ⊤
IsTypeWithin room (Some t) = IsTyWithin room t

abbrev mutual
  pub IsAttrWithin : ℕ → Attr → Type 0
  IsAttrWithin room unit = ⊤
  IsAttrWithin room (int_attr n t) = ⊤
  IsAttrWithin room (num text t) = IsTyWithin room t
  IsAttrWithin room (str bytes t) = IsTypeWithin room t
  IsAttrWithin room (sym names) = ⊤
  IsAttrWithin room (of_ty t) = IsTyWithin room t
  IsAttrWithin room (kept text t) = (nesting text ≤ room) × IsTypeWithin room t
  IsAttrWithin zero (array xs) = ⊥
  IsAttrWithin (suc room) (array xs) = AreAttrsWithin room xs
  IsAttrWithin zero (dict es) = ⊥
  IsAttrWithin (suc room) (dict es) = AreEntriesWithin room es

  pub AreAttrsWithin : ℕ → Attrs → Type 0
  AreAttrsWithin room no_attrs = ⊤
  AreAttrsWithin room (attr_then x xs) = IsAttrWithin room x × AreAttrsWithin room xs

  pub AreEntriesWithin : ℕ → Entries → Type 0
  AreEntriesWithin room no_entries = ⊤
  AreEntriesWithin room (entry_then name x es) = IsAttrWithin room x × AreEntriesWithin room es

-- ---- rows

-- The text of the row opens no more brackets than these.
pub record IsRowWithin (rows : List Row) (room : ℕ) (r : Row) : Type 0 where
  pub fits : brackets_of r ≤ room
  pub operands : AllByRecursion (λ v. IfSome (value_type rows v) (IsTyWithin (room - 1))) r.operands
  pub results : AreTysWithin (if stands_bare (tys r.results) then room else room - 1) (tys r.results)
  pub properties : AreEntriesWithin (room - 2) (entries r.props)
  pub attributes : AreEntriesWithin (room - 1) (entries r.attrs)
  pub arguments : AllByRecursion (λ ts. AreTysWithin (room - 3) (tys ts)) r.regions

-- No place in the module's text stands in more than 256 brackets.
abbrev pub IsWithinBrackets : Rows → Type 0
IsWithinBrackets m = All (λ r. IsRowWithin m.rows (room_of m.rows r) r) m.rows
