-- The operations of a tree in text order with their numbers, before any name is looked up.
use Rattle.std.specs.Prelude.{ℕ, Bool, false, ◌&&◌, ◌==◌, if◌then◌else◌, suc, ◌+◌, List, [], ◌∷◌, ◌++◌, length, map, Option, Some, None, codes}
use Rattle.std.specs.Str.{bytes_eq}
use Rattle.mlir_tree.specs.declared.row.Home.{Home}
use Rattle.mlir_tree.specs.declared.row.Row.{Row}
use Rattle.mlir_tree.specs.declared.value.Val.{Val}
use Rattle.mlir_tree.specs.Tree.{Ty, Attr}
use Rattle.mlir_parse.specs.declared.syn.SynArg.{SynArg}
use Rattle.mlir_parse.specs.declared.syn.SynEntry.{SynEntry}
use Rattle.mlir_parse.specs.SynTree.{Head, Operation, operation, Regions, no_regions, region_then, Operations, no_operations, operation_then, operations}
use Rattle.mlir_parse.specs.Limits.{operation_count, operations_count}

-- An operation with its number, the region in which it stands, and the arguments of its regions.
pub record Laid : Type 0 where
  pub id : ℕ
  pub home : Option Home
  pub head : Head
  pub arguments : List (List SynArg)

abbrev pub arguments_of : Regions → List (List SynArg)
arguments_of no_regions = []
arguments_of (region_then args os rs) = args ∷ arguments_of rs

abbrev pub region : ℕ → ℕ → Home
region d g = record { row = d; region = g }

-- Numbers go in text order: an operation stands before those inside it, and those of a region before those of the next.
unfoldable mutual
  pub laid_operation : ℕ → Option Home → Operation → List Laid
  laid_operation n home (operation h rs) =
      record { id = n; home = home; head = h; arguments = arguments_of rs } ∷ laid_regions n 0 (suc n) rs

  -- the operations in the regions of row d, from its region g on
  pub laid_regions : ℕ → ℕ → ℕ → Regions → List Laid
  laid_regions d g n no_regions = []
  laid_regions d g n (region_then args os rs) = laid_operations (region d g) n os ++ laid_regions d (suc g) (n + operations_count os) rs

  pub laid_operations : Home → ℕ → Operations → List Laid
  laid_operations h n no_operations = []
  laid_operations h n (operation_then o os) = laid_operation n (Some h) o ++ laid_operations h (n + operation_count o) os

-- ---- the operation that is the module (builtin dialect, "builtin.module")

abbrev pub implied_head : Head
implied_head = record {
  at = 0;
  name = codes "builtin.module";
  results = [];
  operands = [];
  props = [];
  attrs = [];
  types_at = 0;
  operand_types = [];
  result_types = [];
}

-- A module that holds what is written.
abbrev pub implied_module : List Operation → Operation
implied_module os = operation implied_head (region_then [] (operations os) no_regions)

-- ---- rows without operands

abbrev pub entry_pair : SynEntry → List ℕ × Attr
entry_pair e = (e.name, e.value)

abbrev pub argument_types : List SynArg → List Ty
argument_types args = map (λ a. a.ty) args

-- The row of an operation, with these operands.
abbrev pub row_with : List Val → Laid → Row
row_with operands l = record {
  id = l.id;
  home = l.home;
  name = l.head.name;
  operands = operands;
  results = l.head.result_types;
  props = map entry_pair l.head.props;
  attrs = map entry_pair l.head.attrs;
  regions = map argument_types l.arguments;
}

abbrev pub bare_rows : List Laid → List Row
bare_rows ls = map (row_with []) ls

-- The row of a module that holds what is written.
abbrev pub implied_row : Row
implied_row = row_with [] (record { id = 0; home = None; head = implied_head; arguments = [] ∷ [] })

-- ---- the module of a file

abbrev pub has_no_values : Head → Bool
has_no_values h = (length h.operands == 0) && (length h.result_types == 0)

-- One region, and neither operands nor results.
abbrev pub is_module_shape : Head → Regions → Bool
is_module_shape h (region_then args os no_regions) = bytes_eq h.name (codes "builtin.module") && has_no_values h
is_module_shape h rs = false

abbrev pub is_module : Operation → Bool
is_module (operation h rs) = is_module_shape h rs

-- The one operation that is written, where it is a module, else a module that holds all that is written.
abbrev pub module_of : List Operation → Operation
module_of (o ∷ []) = if is_module o then o else implied_module (o ∷ [])
module_of os = implied_module os
