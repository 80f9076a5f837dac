-- When the places of rows are known by their numbers.
use Rattle.std.specs.Prelude.{◌≡◌, ℕ, zero, suc, ◌==◌, nat_eq, List, slice_get, Option, Some, None}
use Rattle.std.specs.Option.{option_and_then}
use Rattle.std.specs.List.{position_from}
use Rattle.indexmap.specs.IndexMap.{get}
use Rattle.mlir_tree.specs.declared.row.Row.{Row}
use Rattle.row_index.specs.declared.index.Places.{Places}
use Rattle.row_index.specs.declared.index.Places.TheVariants.{Dense, Sparse}
use Rattle.row_index.specs.declared.index.RowIndex.{RowIndex}

-- the place that an entry stands for, which is one more than the place
abbrev pub below : ℕ → Option ℕ
below zero = None
below (suc place) = Some place

-- what a list of such entries has for a number
abbrev pub slot_of : List ℕ → ℕ → Option ℕ
slot_of slots id = option_and_then below (slice_get slots id)

abbrev pub place_in : Places → ℕ → Option ℕ
place_in (Dense slots) id = slot_of slots.items id
place_in (Sparse table) id = get nat_eq table id

abbrev pub place_of : RowIndex → ℕ → Option ℕ
place_of index id = place_in index.places id

-- The place of the first row of this number, where the first of these rows has the place `at`.
abbrev pub place_from : ℕ → List Row → ℕ → Option ℕ
place_from at rows id = position_from (λ r. r.id == id) at rows

-- The number of each row leads to the place of the first row of that number, and no other number to any place.
abbrev pub Indexes : RowIndex → List Row → Type 0
Indexes index rows = (id : ℕ) → place_of index id ≡ place_from 0 rows id
