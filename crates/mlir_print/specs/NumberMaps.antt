-- Which numbers are those of rows.
use Rattle.std.specs.Prelude.{◌≡◌, ℕ, ◌+◌, ◌^◌, ◌<◌, List, slice_get, Option, Some, IfSome, IsTrue}
use Rattle.std.specs.Option.{option_map, option_and_then}
use Rattle.mlir_tree.specs.declared.row.Row.{Row}
use Rattle.mlir_tree.specs.Module.{row_of, has_argument}
use Rattle.row_index.specs.Indexing as index
use Rattle.row_index.specs.Indexing.{Indexes}
use Rattle.mlir_print.specs.declared.numbers.RowNumbers.{RowNumbers}
use Rattle.mlir_print.specs.declared.numbers.Numbers.{Numbers}
use Rattle.mlir_print.specs.Numbering.{result_number, argument_number}

-- what is kept of a row
abbrev pub entry_in : Numbers → ℕ → Option RowNumbers
entry_in n d = option_and_then (slice_get n.rows.items) (index.place_of n.index d)

-- the two finite maps
abbrev pub result_in : Numbers → ℕ → Option ℕ
result_in n d = option_map (λ e. e.result) (entry_in n d)

abbrev pub argument_in : Numbers → ℕ → ℕ → ℕ → Option ℕ
argument_in n d g k = option_and_then (λ e. option_map (λ first. first + k) (slice_get e.arguments.items g)) (entry_in n d)

-- Each row with results and each block argument of the rows has its number.
pub record AreNumbersOf (rows : List Row) (n : Numbers) : Type 0 where
  pub results : (d : ℕ) → IfSome (row_of rows d) (λ r. result_in n d ≡ Some (result_number rows d))
  pub arguments : (d g k : ℕ) → IfSome (row_of rows d) (λ r. IsTrue (has_argument g k r) → argument_in n d g k ≡ Some (argument_number rows d g k))
  pub places : Indexes n.index rows
  pub fit : (d g k : ℕ) → IfSome (row_of rows d) (λ r. IsTrue (has_argument g k r) → argument_number rows d g k < 2 ^ 128)
