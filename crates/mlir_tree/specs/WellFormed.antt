-- When rows are a module.
use Rattle.std.specs.Prelude.{◌≡◌, ℕ, ◌^◌, ◌<◌, ◌≤◌, nat_eq, List, [], ◌∷◌, length, map, codes, None, IsSome, IfSome, IsTrue, All, Contains}
use Rattle.std.specs.List.{IsDistinct}
use Rattle.mlir_tree.specs.declared.row.Row.{Row}
use Rattle.mlir_tree.specs.declared.row.Home.{Home}
use Rattle.mlir_tree.specs.declared.rows.Rows.{Rows}
use Rattle.mlir_tree.specs.Tree.{Attr}
use Rattle.mlir_tree.specs.Range.{AreRising}
use Rattle.mlir_tree.specs.Module.{row_of, is_earlier, is_inside, is_contained, IsVisible}

-- No number stands twice.
abbrev pub AreDistinct : List Row → Type 0
AreDistinct rows = IsDistinct nat_eq (map (λ r. r.id) rows)

-- Row 0: the operation that is the module (builtin dialect, "builtin.module").
pub record IsModuleRow (r : Row) : Type 0 where
  pub number : r.id ≡ 0
  pub no_home : r.home ≡ None
  pub name : r.name ≡ codes "builtin.module"
  pub one_region : length r.regions ≡ 1
  pub no_operands : r.operands ≡ []
  pub no_results : r.results ≡ []

-- It stands first, and each other row has a home.
abbrev pub BeginsWithModule : List Row → Type 0
BeginsWithModule [] = ⊥
BeginsWithModule (r ∷ rows) = IsModuleRow r × All (λ s. IsSome s.home) rows

-- Numbers differ and are below the next free one, and row 0 is the module.
pub record AreNumbered (m : Rows) : Type 0 where
  pub differ : AreDistinct m.rows
  pub below_next : All (λ r. r.id < m.next) m.rows
  pub begins : BeginsWithModule m.rows

-- The region is one of a row that stands earlier than row u.
abbrev pub IsEarlierRegion : List Row → ℕ → Home → Type 0
IsEarlierRegion rows u h = IsTrue (is_earlier rows h.row u) × IfSome (row_of rows h.row) (λ r. h.region < length r.regions)

-- A row's home is a region of an earlier row, and the rows that a row contains follow it directly, region by region.
pub record AreNested (rows : List Row) : Type 0 where
  pub homes : All (λ r. IfSome r.home (IsEarlierRegion rows r.id)) rows
  -- a row between a row and one that it contains is contained too
  pub together : (d between u : ℕ) → IsTrue (is_earlier rows d between) → IsTrue (is_earlier rows between u) → IsTrue (is_contained rows u d) → IsTrue (is_contained rows between d)
  -- a row of an earlier region stands earlier
  pub by_region : (d g k u v : ℕ) → IsTrue (is_inside rows u (record { row = d; region = g })) → IsTrue (is_inside rows v (record { row = d; region = k })) → IsTrue (is_earlier rows u v) → g ≤ k

-- Each row's number is above that of the row in which it stands, as in rows that are numbered in text order.
abbrev pub HomesAreLower : List Row → Type 0
HomesAreLower rows = All (λ r. IfSome r.home (λ h. h.row < r.id)) rows

-- Each operand exists and is visible at its row.
abbrev pub HasVisibleOperands : List Row → Row → Type 0
HasVisibleOperands rows r = All (λ v. IsVisible rows v r.id) r.operands

-- The names of a dictionary's entries.
abbrev pub names : List (List ℕ × Attr) → List (List ℕ)
names entries = map (λ e. e.0) entries

-- Both dictionaries are sorted by name without repeats, and share no name.
pub record HasDictionaries (r : Row) : Type 0 where
  pub properties : AreRising (names r.props)
  pub attributes : AreRising (names r.attrs)
  pub apart : (name : List ℕ) → Contains (names r.props) name → Contains (names r.attrs) name → ⊥

-- At most 65,535 operands, results, regions, and arguments of each region.
pub record HasSizes (r : Row) : Type 0 where
  pub operands : length r.operands < 2 ^ 16
  pub results : length r.results < 2 ^ 16
  pub regions : length r.regions < 2 ^ 16
  pub arguments : All (λ arguments. length arguments < 2 ^ 16) r.regions

pub record IsWellFormed (m : Rows) : Type 0 where
  pub numbers : AreNumbered m
  pub nesting : AreNested m.rows
  pub operands : All (HasVisibleOperands m.rows) m.rows
  pub dictionaries : All HasDictionaries m.rows
  pub sizes : All HasSizes m.rows
