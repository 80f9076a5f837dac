-- How far the printing of nested rows has come. Places are those of the list of rows.
use Rattle.std.specs.Prelude.{◌≡◌, ◌≢◌, ℕ, ◌+◌, ◌<◌, ◌≤◌, Bool, false, List, [], slice_get, Some}
use Rattle.std.specs.Option.{option_map_or}
use Rattle.mlir_tree.specs.declared.row.Home.{Home}
use Rattle.mlir_tree.specs.declared.row.Row.{Row}
use Rattle.mlir_print.specs.ModuleText.{stands_in, region_of, row_text, inside_text}

-- whether the row at this place stands in the region
abbrev pub stands_at : List Row → ℕ → Home → Bool
stands_at rows at h = option_map_or (stands_in h) (slice_get rows at) false

-- No row of the places from `from` to `to` stands in the region.
abbrev pub NoneStand : List Row → Home → ℕ → ℕ → Type 0
NoneStand rows h from to = (j : ℕ) → from ≤ j → j < to → stands_at rows j h ≡ false

-- A row from place `to` on stands in none of the rows from place `from` to `to`.
abbrev pub IsBehind : List Row → ℕ → ℕ → Type 0
IsBehind rows from to =
    (m j : ℕ) (r s : Row) (h : Home) → slice_get rows m ≡ Some r → slice_get rows j ≡ Some s → s.home ≡ Some h
    → from ≤ m → m < to → to ≤ j → h.row ≢ r.id

-- A row from place `to` on that stands in one of the rows from place `from` to `to` stands in the first of these, in region g or a later one.
abbrev pub IsOpen : List Row → ℕ → ℕ → ℕ → Type 0
IsOpen rows from g to =
    (m j : ℕ) (r s : Row) (h : Home) → slice_get rows m ≡ Some r → slice_get rows j ≡ Some s → s.home ≡ Some h
    → from ≤ m → m < to → to ≤ j → h.row ≡ r.id → (m ≡ from) × (g ≤ h.region)

-- No row of the places from `from` to `to` stands in a row before place `before`.
abbrev pub AreInside : List Row → ℕ → ℕ → ℕ → Type 0
AreInside rows before from to = (m : ℕ) (r : Row) (g : ℕ) → slice_get rows m ≡ Some r → m < before → NoneStand rows (region_of r g) from to

-- None of these stands in a region of the row at place `at` from region g on.
abbrev pub AreEarlier : List Row → ℕ → ℕ → ℕ → ℕ → Type 0
AreEarlier rows at g from to = (r : Row) (k : ℕ) → slice_get rows at ≡ Some r → g ≤ k → NoneStand rows (region_of r k) from to

-- What ends a row that begins at place `at`.
pub record EndsRow (rows : List Row) (at to : ℕ) : Type 0 where
  pub later : at < to
  pub behind : IsBehind rows at to
  pub inside : AreInside rows at (at + 1) to

-- What is printed of region g of the row at place `at`, from place `from` to `to`.
pub record EndsRegion (rows : List Row) (at g from to : ℕ) : Type 0 where
  pub later : from ≤ to
  pub opened : IsOpen rows at (g + 1) to
  pub inside : AreInside rows at from to
  pub earlier : AreEarlier rows at (g + 1) from to

-- the text of the row at this place, around those inside it
abbrev pub row_text_at : List Row → ℕ → ℕ → List ℕ
row_text_at rows depth at = option_map_or (λ r. row_text rows depth r (inside_text rows (at + 1) (depth + 1) r)) (slice_get rows at) []
