-- Modules as rows in text order: which row stands where, and which value is visible where
-- (MLIR Language Reference, "Operations", "Regions", "Value Scoping").
use Rattle.std.specs.Prelude.{ℕ, Bool, false, not, ◌&&◌, ◌||◌, ◌==◌, nat_lt, if◌then◌else◌, List, [], ◌∷◌, reverse, length, find, slice_get, Option, IsTrue}
use Rattle.std.specs.Option.{option_map_or, option_and_then}
use Rattle.std.specs.List.{list_any}
use Rattle.mlir_tree.specs.declared.row.Home.{Home}
use Rattle.mlir_tree.specs.declared.row.Row.{Row}
use Rattle.mlir_tree.specs.declared.value.Val.{Val}
use Rattle.mlir_tree.specs.declared.value.Val.TheVariants.{Res, Arg}

-- The row of this number.
abbrev pub row_of : List Row → ℕ → Option Row
row_of rows u = find (λ r. r.id == u) rows

-- Whether some row has this number.
abbrev pub has_row : List Row → ℕ → Bool
has_row rows u = list_any (λ r. r.id == u) rows

-- Whether row d stands earlier than row u in text order.
abbrev pub is_earlier : List Row → ℕ → ℕ → Bool
is_earlier [] d u = false
is_earlier (r ∷ rows) d u = ((r.id == d) && has_row rows u) || is_earlier rows d u

-- The region in which row u stands.
abbrev pub home_of : List Row → ℕ → Option Home
home_of rows u = option_and_then (λ r. r.home) (row_of rows u)

-- The same with the homes around it, where the rows are given last first. Each home is that of an earlier row.
abbrev pub homes_around : List Row → ℕ → List Home
homes_around [] u = []
homes_around (r ∷ rows) u =
    if r.id == u then (option_map_or (λ h. h ∷ homes_around rows h.row) r.home []) else homes_around rows u

-- The regions that enclose row u, innermost first: its home, the home of that home's row, and so on.
unfoldable pub enclosing : List Row → ℕ → List Home
enclosing rows u = homes_around (reverse rows) u

abbrev pub home_eq : Home → Home → Bool
home_eq h k = (h.row == k.row) && (h.region == k.region)

-- Whether row u stands inside this region, directly or deeper.
abbrev pub is_inside : List Row → ℕ → Home → Bool
is_inside rows u h = list_any (home_eq h) (enclosing rows u)

-- Whether row d contains row u, directly or deeper.
abbrev pub is_contained : List Row → ℕ → ℕ → Bool
is_contained rows u d = list_any (λ h. h.row == d) (enclosing rows u)

-- Whether the row has a result of this place.
abbrev pub has_result : ℕ → Row → Bool
has_result k r = nat_lt k (length r.results)

-- Whether the row has an argument of this place in this region.
abbrev pub has_argument : ℕ → ℕ → Row → Bool
has_argument g k r = option_map_or (λ arguments. nat_lt k (length arguments)) (slice_get r.regions g) false

-- Whether the value exists: its row is there, and has it.
abbrev pub is_value : List Row → Val → Bool
is_value rows (Res d k) = option_map_or (has_result k) (row_of rows d) false
is_value rows (Arg d g k) = option_map_or (has_argument g k) (row_of rows d) false

-- Whether row u stands where the value is known. A result of row d is known behind d in the region of d, in the regions
-- inside it too, but not in those of d. An argument is known in its region, and in the regions inside it.
abbrev pub is_in_scope : List Row → Val → ℕ → Bool
is_in_scope rows (Res d k) u =
    is_earlier rows d u && (option_map_or (is_inside rows u) (home_of rows d) false && not (is_contained rows u d))
is_in_scope rows (Arg d g k) u = is_inside rows u (record { row = d; region = g })

-- Whether the value exists and is visible at row u.
unfoldable pub is_visible : List Row → Val → ℕ → Bool
is_visible rows v u = is_value rows v && is_in_scope rows v u

abbrev pub IsVisible : List Row → Val → ℕ → Type 0
IsVisible rows v u = IsTrue (is_visible rows v u)
