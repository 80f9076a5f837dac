-- The numbers by which values are named, each counted in text order (MLIR Language Reference, "Identifiers and keywords").
use Rattle.std.specs.Prelude.{ℕ, suc, ◌+◌, Bool, nat_lt, ◌==◌, if◌then◌else◌, List, [], ◌∷◌, length, take, filter, Option, Some, None, unwrap_or}
use Rattle.std.specs.Option.{option_map, option_map_or}
use Rattle.mlir_tree.specs.declared.row.Row.{Row}
use Rattle.mlir_tree.specs.Tree.{Ty}
use Rattle.mlir_tree.specs.Module.{row_of}

abbrev pub has_results : Row → Bool
has_results r = nat_lt 0 (length r.results)

-- How many of the rows have results.
abbrev pub with_results : List Row → ℕ
with_results rows = length (filter has_results rows)

-- How many arguments the regions have.
abbrev pub arguments_of : List (List Ty) → ℕ
arguments_of [] = 0
arguments_of (arguments ∷ regions) = length arguments + arguments_of regions

-- How many arguments the regions of the rows have.
abbrev pub arguments_in : List Row → ℕ
arguments_in [] = 0
arguments_in (r ∷ rows) = arguments_of r.regions + arguments_in rows

-- The place of row d.
abbrev pub place_of : List Row → ℕ → Option ℕ
place_of [] d = None
place_of (r ∷ rows) d = if r.id == d then Some 0 else option_map suc (place_of rows d)

-- The rows that stand before row d.
abbrev pub rows_before : List Row → ℕ → List Row
rows_before rows d = take (unwrap_or (place_of rows d) 0) rows

-- The number of a row with results: how many rows with results stand before it.
unfoldable pub result_number : List Row → ℕ → ℕ
result_number rows d = with_results (rows_before rows d)

-- The number of argument k of region g of row d: the arguments of earlier rows and of earlier regions of d come before it.
unfoldable pub argument_number : List Row → ℕ → ℕ → ℕ → ℕ
argument_number rows d g k = arguments_in (rows_before rows d) + (option_map_or (λ r. arguments_of (take g r.regions)) (row_of rows d) 0 + k)
