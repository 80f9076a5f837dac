-- In nested rows each home is that of a row.
use Rattle.std.proofs.Common.{◌≡◌, ℕ, Bool, true, false, ◌&&◌, ◌||◌, List, [], ◌∷◌, Option, Some, None, refl, sym, ap, ◌∙◌}
use Rattle.std.specs.Prelude.{◌==◌, IfSome}
use Rattle.std.specs.Option.{option_map_or}
use Rattle.std.proofs.lemmas.Bool.{ne_eqb}
use Rattle.std.proofs.lemmas.List.Elements.{All-weaker}
use Rattle.std.proofs.lemmas.List.Folds.{list_any_none}
use Rattle.mlir_tree.specs.declared.row.Home.{Home}
use Rattle.mlir_tree.specs.declared.row.Row.{Row}
use Rattle.mlir_tree.specs.Module.{has_row, is_earlier}
use Rattle.mlir_tree.specs.WellFormed.{IsEarlierRegion}
use Rattle.mlir_tree.specs.Laws.{HomesAreRows}

-- a row that stands earlier than some row is there
pub earlier_is_row : (rows : List Row) (d u : ℕ) → is_earlier rows d u ≡ true → has_row rows d ≡ true
earlier_is_row [] d u p = absurd (cc)
earlier_is_row (r ∷ rows) d u p = first_or_later (r.id == d) (has_row rows u) (is_earlier rows d u) (has_row rows d) (earlier_is_row rows d u) p
  where
    first_or_later : (here after earlier there : Bool) → (earlier ≡ true → there ≡ true) → ((here && after) || earlier) ≡ true → (here || there) ≡ true
    first_or_later true after earlier there later q = refl
    first_or_later false after earlier there later q = later q

other_home : (rows : List Row) (n : ℕ) → has_row rows n ≡ false → (u : ℕ) (home : Option Home) → IfSome home (IsEarlierRegion rows u) → option_map_or (λ h. h.row == n) home false ≡ false
other_home rows n none u None is = refl
other_home rows n none u (Some h) is =
    ne_eqb h.row n (λ e. let no : true ≡ false = sym (earlier_is_row rows h.row u is.0) ∙ (ap (has_row rows) e ∙ none) in absurd (cc))

pub homes_are_rows : HomesAreRows
homes_are_rows rows n nested none = record {
  no_row = none;
  no_home = list_any_none (λ r. option_map_or (λ h. h.row == n) r.home false) rows
      (All-weaker (λ r. IfSome r.home (IsEarlierRegion rows r.id)) (λ r. option_map_or (λ h. h.row == n) r.home false ≡ false)
      (λ r is. other_home rows n none r.id r.home is) rows nested.homes);
}
