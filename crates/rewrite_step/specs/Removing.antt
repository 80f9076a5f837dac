-- Which rows go when one is removed, by what is known of their numbers.
use Rattle.std.specs.Prelude.{ℕ, Bool, false, not, ◌||◌, ◌==◌, nat_eq, List, Option, unwrap_or}
use Rattle.std.specs.Option.{option_map_or}
use Rattle.std.specs.List.{list_any}
use Rattle.indexmap.specs.IndexMap.{IndexMap, get}
use Rattle.mlir_tree.specs.declared.row.Home.{Home}
use Rattle.mlir_tree.specs.declared.row.Row.{Row}

module _ {S : Type 0} (inner : IndexMap ℕ Bool S) where
  abbrev pub is_inner : ℕ → Bool
  is_inner u = unwrap_or (get nat_eq inner u) false

  abbrev pub has_inner_home : Option Home → ℕ → Bool
  has_inner_home home owner = option_map_or (λ h. (h.row == owner) || is_inner h.row) home false

  abbrev pub stays : ℕ → ℕ → Bool
  stays owner u = not ((u == owner) || is_inner u)

-- Whether a home is a region of the row.
abbrev pub stands_in : ℕ → Option Home → Bool
stands_in owner home = option_map_or (λ h. h.row == owner) home false

-- Whether some row stands in a region of the row.
abbrev pub has_inner : ℕ → List Row → Bool
has_inner owner rows = list_any (λ r. stands_in owner r.home) rows
