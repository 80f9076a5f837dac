-- The first fault of a tree, and its rows where it has none (MLIR Language Reference, "Operations" and "Value Scoping").
use Rattle.std.specs.Prelude.{ℕ, suc, ◌+◌, Bool, true, false, ◌&&◌, ◌==◌, nat_lt, nat_le, if◌then◌else◌, List, [], ◌∷◌, length, map, filter_map, slice_get, sum_by, Option, Some, None, Result, Ok, Err}
use Rattle.std.specs.Option.{option_or, option_map, option_map_or, option_and_then}
use Rattle.std.specs.List.{list_any, list_all}
use Rattle.std.specs.Str.{bytes_eq}
use Rattle.std.specs.Ordering.{is_eq}
use Rattle.mlir_tree.specs.declared.row.Home.{Home}
use Rattle.mlir_tree.specs.declared.row.Row.{Row}
use Rattle.mlir_tree.specs.declared.rows.Rows.{Rows}
use Rattle.mlir_tree.specs.declared.value.Val.{Val}
use Rattle.mlir_tree.specs.declared.value.Val.TheVariants.{Res, Arg}
use Rattle.mlir_tree.specs.Tree.{Ty}
use Rattle.mlir_tree.specs.Order.{ty_cmp}
use Rattle.mlir_attributes.specs.declared.fault.ModFault.{ModFault}
use Rattle.mlir_attributes.specs.declared.fault.ModKind.{ModKind}
use Rattle.mlir_attributes.specs.declared.fault.ModKind.TheVariants as faults
use Rattle.mlir_parse.specs.declared.syn.Syn.{Syn}
use Rattle.mlir_parse.specs.declared.syn.SynArg.{SynArg}
use Rattle.mlir_parse.specs.declared.syn.SynEntry.{SynEntry}
use Rattle.mlir_parse.specs.declared.syn.SynResult.{SynResult}
use Rattle.mlir_parse.specs.declared.syn.SynUse.{SynUse}
use Rattle.mlir_parse.specs.SynTree.{Head, Operation, operation, Regions, no_regions, region_then, Operations, no_operations, operation_then}
use Rattle.mlir_parse.specs.Limits.{operation_count, operations_count}
use Rattle.mlir_resolve.specs.Laid.{Laid, region, row_with, laid_operation, module_of}
use Rattle.mlir_resolve.specs.Sight.{Definition, value_at, meaning_at, is_defined, is_named_before}

-- What names mean at an operation, and which names the file has.
pub record Names : Type 0 where
  pub meaning : List ℕ → Option Definition
  pub is_defined : List ℕ → Bool

abbrev pub fault : ModKind → ℕ → Option ModFault
fault kind at = Some (record { kind = kind; at = at })

-- The first of two faults.
abbrev pub or_then : Option ModFault → Option ModFault → Option ModFault
or_then = option_or

-- ---- operands

abbrev pub known_use_fault : SynUse → Option Definition → Bool → Option ModFault
known_use_fault x (Some d) known = if nat_lt x.index (length d.types) then None else fault faults.ResultIndex x.at
known_use_fault x None true = fault faults.NotVisible x.at
known_use_fault x None false = fault faults.Undefined x.at

-- A use whose name means nothing there, or has no such value.
unfoldable pub use_fault : Names → SynUse → Option ModFault
use_fault names x = known_use_fault x (names.meaning x.name) (names.is_defined x.name)

abbrev pub uses_fault : Names → List SynUse → Option ModFault
uses_fault names [] = None
uses_fault names (x ∷ xs) = or_then (use_fault names x) (uses_fault names xs)

abbrev pub count_fault : Head → Option ModFault
count_fault h = if length h.operands == length h.operand_types then None else fault faults.CountDiffers h.types_at

-- The type of a use.
unfoldable pub use_type : Names → SynUse → Option Ty
use_type names x = option_and_then (λ d. slice_get d.types x.index) (names.meaning x.name)

abbrev pub has_type : Option Ty → Ty → Bool
has_type t written = option_map_or (λ u. is_eq (ty_cmp u written)) t false

-- A use whose value has another type than is written.
abbrev pub types_fault : Names → List SynUse → List Ty → Option ModFault
types_fault names (x ∷ xs) (t ∷ ts) = or_then (if has_type (use_type names x) t then None else fault faults.TypeDiffers x.at) (types_fault names xs ts)
types_fault names xs ts = None

-- ---- dictionaries

abbrev pub has_entry : List SynEntry → List ℕ → Bool
has_entry props name = list_any (λ e. bytes_eq e.name name) props

-- The lesser of two places.
abbrev pub lesser : ℕ → Option ℕ → Option ℕ
lesser at None = Some at
lesser at (Some other) = Some (if nat_le at other then at else other)

-- The least place of an attribute with the name of a property.
abbrev pub least_shared : List SynEntry → List SynEntry → Option ℕ
least_shared props [] = None
least_shared props (e ∷ attrs) = if has_entry props e.name then lesser e.at (least_shared props attrs) else least_shared props attrs

abbrev pub entries_fault : Head → Option ModFault
entries_fault h = option_map (λ at. record { kind = faults.PropAndAttr; at = at }) (least_shared h.props h.attrs)

-- What is wrong with an operation before its regions.
unfoldable pub head_fault : Names → Head → Option ModFault
head_fault names h = or_then (uses_fault names h.operands) (or_then (count_fault h) (or_then (types_fault names h.operands h.operand_types) (entries_fault h)))

-- ---- names twice

-- Whether a name stands in the region before the value that is made there.
abbrev pub Twice : Type 0
Twice = List ℕ → Val → Bool

abbrev pub twice_fault : Bool → ℕ → Option ModFault
twice_fault twice at = if twice then fault faults.Redefined at else None

-- the arguments of region g of row d, from its argument k on
abbrev pub arguments_fault : Twice → ℕ → ℕ → ℕ → List SynArg → Option ModFault
arguments_fault twice d g k [] = None
arguments_fault twice d g k (a ∷ args) = or_then (twice_fault (twice a.name (Arg d g k)) a.at) (arguments_fault twice d g (k + 1) args)

-- the results of row d, from its result o on
abbrev pub names_fault : Twice → ℕ → ℕ → List SynResult → Option ModFault
names_fault twice d o [] = None
names_fault twice d o (r ∷ rs) = or_then (twice_fault (twice r.name (Res d o)) r.at) (names_fault twice d (o + r.count) rs)

-- Whether results that are named are as many as their types, and each name has one or more.
abbrev pub are_counted : List SynResult → List Ty → Bool
are_counted rs types = list_all (λ x. nat_lt 0 x.count) rs && (sum_by (λ x. x.count) rs == length types)

abbrev pub result_count_fault : List SynResult → List Ty → Option ModFault
result_count_fault [] types = None
result_count_fault (r ∷ rs) types = if are_counted (r ∷ rs) types then None else fault faults.CountDiffers r.at

-- What is wrong with the results of row d.
unfoldable pub results_fault : Twice → ℕ → Head → Option ModFault
results_fault twice d h = or_then (result_count_fault h.results h.result_types) (names_fault twice d 0 h.results)

-- ---- the tree

abbrev pub names_at : List Laid → ℕ → Names
names_at ls u = record { meaning = meaning_at ls u; is_defined = is_defined ls }

-- The module stands in no region, so its names stand nowhere twice.
abbrev pub twice_in : List Laid → Option Home → Twice
twice_in ls None name v = false
twice_in ls (Some h) name v = is_named_before ls h name v

-- Operations in text order. In each, what comes before its regions, then its regions, then its results.
unfoldable mutual
  pub operation_fault : List Laid → ℕ → Option Home → Operation → Option ModFault
  operation_fault ls n home (operation h rs) =
      or_then (head_fault (names_at ls n) h) (or_then (regions_fault ls n 0 (suc n) rs) (results_fault (twice_in ls home) n h))

  pub regions_fault : List Laid → ℕ → ℕ → ℕ → Regions → Option ModFault
  regions_fault ls d g n no_regions = None
  regions_fault ls d g n (region_then args os rs) =
      or_then (arguments_fault (twice_in ls (Some (region d g))) d g 0 args)
      (or_then (operations_fault ls (region d g) n os) (regions_fault ls d (suc g) (n + operations_count os) rs))

  pub operations_fault : List Laid → Home → ℕ → Operations → Option ModFault
  operations_fault ls h n no_operations = None
  operations_fault ls h n (operation_then o os) =
      or_then (operation_fault ls n (Some h) o) (operations_fault ls h (n + operation_count o) os)

-- ---- rows

-- The value that is used, where the name means something.
abbrev pub used_value : Names → SynUse → Option Val
used_value names x = option_map (λ d. value_at d.first x.index) (names.meaning x.name)

abbrev pub resolved_row : List Laid → Laid → Row
resolved_row ls l = row_with (filter_map (used_value (names_at ls l.id)) l.head.operands) l

abbrev pub resolved_rows : List Laid → Rows
resolved_rows ls = record { rows = map (resolved_row ls) ls; next = length ls }

abbrev pub rows_or : List Laid → Option ModFault → Result Rows ModFault
rows_or ls None = Ok (resolved_rows ls)
rows_or ls (Some f) = Err f

abbrev pub resolved_module : Operation → Result Rows ModFault
resolved_module o = rows_or (laid_operation 0 None o) (operation_fault (laid_operation 0 None o) 0 None o)

-- The rows of a tree, or its first fault.
unfoldable pub resolved : Syn → Result Rows ModFault
resolved file = resolved_module (module_of file.ops)

-- How many operands and results rows have together.
abbrev pub slots_of : List Row → ℕ
slots_of [] = 0
slots_of (r ∷ rows) = length r.operands + length r.results + slots_of rows
