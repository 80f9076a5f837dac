-- Which modules have a text that is read back (MLIR Language Reference, "Operations", "Blocks" and "Regions").
use Rattle.std.specs.Prelude.{ℕ, ◌-◌, ◌*◌, ◌<◌, ◌≤◌, Bool, not, ◌&&◌, if◌then◌else◌, List, length, All, IfSome}
use Rattle.std.specs.List.{list_any, AllByRecursion}
use Rattle.mlir_tree.specs.declared.row.Row.{Row}
use Rattle.mlir_tree.specs.declared.rows.Rows.{Rows}
use Rattle.mlir_tree.specs.Tree.{tys, entries}
use Rattle.mlir_tree.specs.Module.{enclosing}
use Rattle.mlir_tree.specs.WellFormed.{IsWellFormed}
use Rattle.mlir_print.specs.Text.{stands_bare}
use Rattle.mlir_print.specs.ModuleText.{value_type, is_empty}
use Rattle.mlir_attributes.specs.Types.{max_open}
use Rattle.mlir_attributes.specs.Steps.{max_operations, max_slots}
use Rattle.mlir_resolve.specs.Resolving.{slots_of}
use Rattle.round_trip.specs.Printable.{AreBytes, IsPrintableTy, ArePrintableTys, ArePrintableEntries}

-- How many brackets may be opened where the row is printed. Each region around it stands in two.
abbrev pub room_of : List Row → Row → ℕ
room_of rows r = max_open - 2 * length (enclosing rows r.id)

abbrev pub some_arguments : Row → Bool
some_arguments r = list_any (λ arguments. not (is_empty arguments)) r.regions

-- How many brackets stand around what is deepest in a row but for its types, attributes and the rows inside it: the
-- arguments of a region, an entry of the properties or a region, or else the operands.
abbrev pub brackets_of : Row → ℕ
brackets_of r = if some_arguments r then 3 else (if is_empty r.regions && is_empty r.props then 1 else 2)

-- The row is printable where so many brackets may be opened.
pub record IsPrintableRow (rows : List Row) (room : ℕ) (r : Row) : Type 0 where
  pub fits : brackets_of r ≤ room
  pub name : AreBytes r.name
  pub named : 0 < length r.name
  pub operands : AllByRecursion (λ v. IfSome (value_type rows v) (IsPrintableTy (room - 1))) r.operands
  pub results : ArePrintableTys (if stands_bare (tys r.results) then room else room - 1) (tys r.results)
  pub properties : ArePrintableEntries (room - 2) (entries r.props)
  pub attributes : ArePrintableEntries (room - 1) (entries r.attrs)
  pub arguments : AllByRecursion (λ ts. ArePrintableTys (room - 3) (tys ts)) r.regions

-- The module is printable: its text keeps the limits, and each of its types, attributes and names is spelled by its text.
pub record IsPrintable (m : Rows) : Type 0 where
  pub well_formed : IsWellFormed m
  pub rows : All (λ r. IsPrintableRow m.rows (room_of m.rows r) r) m.rows
  pub few : length m.rows ≤ max_operations
  pub slots : slots_of m.rows ≤ max_slots
