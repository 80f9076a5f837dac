-- One way through a tree in text order, with the names in sight kept in scopes, and the rows or the first fault that it gives.
use Rattle.std.specs.Prelude.{ℕ, suc, ◌+◌, Bool, false, ◌||◌, List, [], ◌∷◌, ◌++◌, length, take, drop, filter_map, Option, Some, None, Result, Ok, Err}
use Rattle.std.specs.Option.{option_or}
use Rattle.std.specs.List.{list_any}
use Rattle.std.specs.Str.{bytes_eq}
use Rattle.mlir_tree.specs.declared.row.Home.{Home}
use Rattle.mlir_tree.specs.declared.row.Row.{Row}
use Rattle.mlir_tree.specs.declared.rows.Rows.{Rows}
use Rattle.mlir_tree.specs.declared.value.Val.TheVariants.{Res, Arg}
use Rattle.mlir_tree.specs.Tree.{Ty}
use Rattle.mlir_attributes.specs.declared.fault.ModFault.{ModFault}
use Rattle.mlir_parse.specs.declared.syn.Syn.{Syn}
use Rattle.mlir_parse.specs.declared.syn.SynArg.{SynArg}
use Rattle.mlir_parse.specs.declared.syn.SynResult.{SynResult}
use Rattle.mlir_parse.specs.SynTree.{Head, Operation, operation, Regions, no_regions, region_then, Operations, no_operations, operation_then, operations}
use Rattle.mlir_resolve.specs.Laid.{region, arguments_of, row_with, module_of}
use Rattle.mlir_resolve.specs.Sight.{Definition}
use Rattle.mlir_resolve.specs.Scopes.{find_name, lookup, put_name}
use Rattle.mlir_resolve.specs.Resolving.{Names, used_value, head_fault, result_count_fault}

abbrev pub head_of : Operation → Head
head_of (operation h rs) = h

abbrev pub regions_of : Operation → Regions
regions_of (operation h rs) = rs

-- ---- which names are written as definitions

abbrev pub has_result_name : List ℕ → List SynResult → Bool
has_result_name name rs = list_any (λ r. bytes_eq r.name name) rs

abbrev pub has_argument_name : List ℕ → List SynArg → Bool
has_argument_name name args = list_any (λ a. bytes_eq a.name name) args

abbrev mutual
  pub operation_defines : List ℕ → Operation → Bool
  operation_defines name (operation h rs) = has_result_name name h.results || regions_define name rs

  pub regions_define : List ℕ → Regions → Bool
  regions_define name no_regions = false
  regions_define name (region_then args os rs) = has_argument_name name args || (operations_define name os || regions_define name rs)

  pub operations_define : List ℕ → Operations → Bool
  operations_define name no_operations = false
  operations_define name (operation_then o os) = operation_defines name o || operations_define name os

-- ---- names in sight

-- The operations of the file, the scopes of the regions around, the innermost last, and that of the region itself.
abbrev pub meaning_in : List (List Definition) → List Definition → List ℕ → Option Definition
meaning_in outer scope name = option_or (find_name name scope) (lookup outer name)

abbrev pub names_in : List Operation → List (List Definition) → List Definition → Names
names_in file outer scope = record { meaning = meaning_in outer scope; is_defined = λ name. operations_define name (operations file) }

-- ---- steps that may be refused

abbrev pub after : {A B : Type 0} → Result A ModFault → (A → Result B ModFault) → Result B ModFault
after (Ok a) f = f a
after (Err e) f = Err e

abbrev pub unless : {A : Type 0} → Option ModFault → Result A ModFault → Result A ModFault
unless None r = r
unless (Some e) r = Err e

-- ---- names that are put

abbrev pub argument_definition : ℕ → ℕ → ℕ → SynArg → Definition
argument_definition d g k a = record { name = a.name; first = Arg d g k; types = a.ty ∷ [] }

abbrev pub result_definition : ℕ → ℕ → SynResult → List Ty → Definition
result_definition d o r types = record { name = r.name; first = Res d o; types = take r.count types }

-- the arguments of region g of row d, from its argument k on
abbrev pub put_arguments : ℕ → ℕ → ℕ → List SynArg → List Definition → Result (List Definition) ModFault
put_arguments d g k [] scope = Ok scope
put_arguments d g k (a ∷ args) scope = after (put_name scope a.at (argument_definition d g k a)) (put_arguments d g (k + 1) args)

-- the results of row d from its result o on, which have these types
abbrev pub put_names : ℕ → ℕ → List SynResult → List Ty → List Definition → Result (List Definition) ModFault
put_names d o [] types scope = Ok scope
put_names d o (r ∷ rs) types scope =
    after (put_name scope r.at (result_definition d o r types)) (put_names d (o + r.count) rs (drop r.count types))

unfoldable pub put_results : ℕ → Head → List Definition → Result (List Definition) ModFault
put_results d h scope = unless (result_count_fault h.results h.result_types) (put_names d 0 h.results h.result_types scope)

-- ---- the way

-- The names of the region so far, and the rows so far.
abbrev pub State : Type 0
State = List Definition × List Row

unfoldable pub head_row : Names → ℕ → Option Home → Operation → Result Row ModFault
head_row names d home (operation h rs) =
    unless (head_fault names h) (Ok (row_with (filter_map (used_value names) h.operands) (record { id = d; home = home; head = h; arguments = arguments_of rs })))

unfoldable mutual
  pub operation_walk : List Operation → List (List Definition) → Option Home → Operation → State → Result State ModFault
  operation_walk file outer home (operation h rs) s =
      after (head_row (names_in file outer s.0) (length s.1) home (operation h rs)) (λ row.
      after (regions_walk file (outer ++ s.0 ∷ []) (length s.1) 0 rs (s.1 ++ row ∷ [])) (λ rows.
      after (put_results (length s.1) h s.0) (λ scope. Ok (scope, rows))))

  pub regions_walk : List Operation → List (List Definition) → ℕ → ℕ → Regions → List Row → Result (List Row) ModFault
  regions_walk file outer d g no_regions rows = Ok rows
  regions_walk file outer d g (region_then args os rs) rows =
      after (after (put_arguments d g 0 args []) (λ scope. after (operations_walk file outer (region d g) os (scope, rows)) (λ t. Ok t.1)))
      (regions_walk file outer d (suc g) rs)

  pub operations_walk : List Operation → List (List Definition) → Home → Operations → State → Result State ModFault
  operations_walk file outer h no_operations s = Ok s
  operations_walk file outer h (operation_then o os) s = after (operation_walk file outer (Some h) o s) (operations_walk file outer h os)

-- region g of row d
abbrev pub region_walk : List Operation → List (List Definition) → ℕ → ℕ → List SynArg → Operations → List Row → Result (List Row) ModFault
region_walk file outer d g args os rows =
    after (put_arguments d g 0 args []) (λ scope. after (operations_walk file outer (region d g) os (scope, rows)) (λ t. Ok t.1))

abbrev pub rows_of : List Row → Rows
rows_of rows = record { rows = rows; next = length rows }

unfoldable pub walked : Syn → Result Rows ModFault
walked file = after (operation_walk file.ops [] None (module_of file.ops) ([], [])) (λ s. Ok (rows_of s.1))
