-- Numbers that are in use, as marks at their places.
use Rattle.std.specs.Prelude.{◌≡◌, ℕ, Bool, true, false, not, ◌&&◌, ◌||◌, ◌<◌, nat_lt, nat_le, if◌then◌else◌, List, length, slice_index_or, slice_set}
use Rattle.mlir_tree.specs.declared.row.Row.{Row}
use Rattle.mlir_tree.specs.Module.{has_row}

abbrev pub is_marked : List Bool → ℕ → Bool
is_marked marks id = slice_index_or marks id false

abbrev pub marked : List Bool → ℕ → List Bool
marked marks id = if nat_lt id (length marks) then slice_set marks id true else marks

-- There are so many marks, and each says whether a row has the number.
pub record AreMarked (rows : List Row) (count : ℕ) (marks : List Bool) : Type 0 where
  pub long : length marks ≡ count
  pub right : (id : ℕ) → id < count → is_marked marks id ≡ has_row rows id

-- by the marks before and after a step, and the next free number before it
abbrev pub was_removed : List Bool → List Bool → ℕ → ℕ → Bool
was_removed before after next id = (is_marked before id || nat_le next id) && not (is_marked after id)
