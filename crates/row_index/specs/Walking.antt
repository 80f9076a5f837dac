-- The homes around a row, by its place in the list.
use Rattle.std.specs.Prelude.{◌≡◌, ◌<◌, ◌==◌, ◌&&◌, not, nat_lt, position, ℕ, Bool, false, IsTrue, List, [], ◌∷◌, length, take, reverse, slice_get, Option, Some, IfSome}
use Rattle.std.specs.Option.{option_map, option_map_or}
use Rattle.std.specs.List.{list_any}
use Rattle.mlir_tree.specs.declared.row.Home.{Home}
use Rattle.mlir_tree.specs.declared.row.Row.{Row}
use Rattle.mlir_tree.specs.declared.value.Val.{Val}
use Rattle.mlir_tree.specs.Module.{homes_around, home_eq, has_argument, is_visible}
use Rattle.mlir_tree.specs.WellFormed.{AreDistinct, AreNested}
use Rattle.row_index.specs.declared.index.RowIndex.{RowIndex}
use Rattle.row_index.specs.Indexing.{Indexes}

-- This home and those around it, which are homes of rows before the place.
abbrev pub homes_from : List Row → ℕ → Option Home → List Home
homes_from rows at home = option_map_or (λ h. h ∷ homes_around (reverse (take at rows)) h.row) home []

-- The homes around the row at a place, the innermost first.
unfoldable pub around_place : List Row → ℕ → List Home
around_place rows at = option_map_or (λ r. homes_from rows at r.home) (slice_get rows at) []

abbrev pub number_at : List Row → ℕ → Option ℕ
number_at rows at = option_map (λ r. r.id) (slice_get rows at)

-- Numbers rise along the rows.
abbrev pub AreRisingNumbers : List Row → Type 0
AreRisingNumbers rows = (i j n m : ℕ) → i < j → number_at rows i ≡ Some n → number_at rows j ≡ Some m → n < m

-- Rows with different numbers, nested, whether their numbers rise, and the index of their places, if there is one.
pub record IsWalk (rows : List Row) (rising : Bool) (index : Option RowIndex) : Type 0 where
  pub risen : IsTrue rising → AreRisingNumbers rows
  pub indexed : IfSome index (λ i. Indexes i rows)
  pub distinct : AreDistinct rows
  pub nested : AreNested rows

-- Whether a value exists and is visible at the row at a place.
unfoldable pub sees_at : List Row → ℕ → Val → Bool
sees_at rows at v = option_map_or (λ r. is_visible rows v r.id) (slice_get rows at) false

-- The same of result k of row d, which stands at place p.
abbrev pub has_result_in_sight : List Row → ℕ → ℕ → ℕ → ℕ → Row → Bool
has_result_in_sight rows at p d k r =
    nat_lt k (length r.results)
    && (nat_lt p at && (option_map_or (λ h. list_any (home_eq h) (around_place rows at)) r.home false && not (list_any (λ h. h.row == d) (around_place rows at))))

-- The same of argument k of region g of row d.
abbrev pub has_argument_in_sight : List Row → ℕ → ℕ → ℕ → ℕ → Row → Bool
has_argument_in_sight rows at d g k r = has_argument g k r && list_any (home_eq (record { row = d; region = g })) (around_place rows at)

abbrev pub operands_at : List Row → ℕ → List Val
operands_at rows at = option_map_or (λ r. r.operands) (slice_get rows at) []

-- The first place of the row at a place whose operand isn't visible there.
abbrev pub bad_place_at : List Row → ℕ → Option ℕ
bad_place_at rows at = position (λ v. not (sees_at rows at v)) (operands_at rows at)
