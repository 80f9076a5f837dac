-- Which rows stand where, and in which scopes, doesn't depend on operands.
use Rattle.std.proofs.Common.{◌≡◌, ℕ, true, false, ◌&&◌, ◌||◌, cond, not, List, [], ◌∷◌, reverse, Some, refl, sym, ap, ◌∙◌}
use Rattle.std.specs.Prelude.{◌==◌}
use Rattle.std.specs.Option.{option_map_or, option_and_then}
use Rattle.std.specs.List.{list_any}
use Rattle.mlir_tree.specs.declared.row.Home.{Home}
use Rattle.mlir_tree.specs.declared.row.Row.{Row}
use Rattle.mlir_tree.specs.declared.value.Val.{Val}
use Rattle.mlir_tree.specs.declared.value.Val.TheVariants.{Res, Arg}
use Rattle.mlir_tree.specs.Module.{row_of, has_row, is_earlier, home_of, homes_around, enclosing, is_in_scope}
use Rattle.mlir_tree.proofs.Visibility.{map-reverse}
use Rattle.mlir_resolve.specs.Laid.{Laid, row_with}
use Rattle.mlir_resolve.specs.Sight.{value_at}
use Rattle.mlir_resolve.proofs.Nested.{rows_by}

module _ (f g : Laid → List Val) where
  same_has : (ls : List Laid) (u : ℕ) → has_row (rows_by f ls) u ≡ has_row (rows_by g ls) u
  same_has [] u = refl
  same_has (l ∷ ls) u = λ i. (l.id == u) || same_has ls u i

  pub same_earlier : (ls : List Laid) (d u : ℕ) → is_earlier (rows_by f ls) d u ≡ is_earlier (rows_by g ls) d u
  same_earlier [] d u = refl
  same_earlier (l ∷ ls) d u = λ i. ((l.id == d) && same_has ls u i) || same_earlier ls d u i

  pub same_home : (ls : List Laid) (d : ℕ) → home_of (rows_by f ls) d ≡ home_of (rows_by g ls) d
  same_home [] d = refl
  same_home (l ∷ ls) d =
      elim (l.id == d) as (λ b. option_and_then (λ (r : Row). r.home) (cond b (Some (row_with (f l) l)) (row_of (rows_by f ls) d)) ≡ option_and_then (λ (r : Row). r.home) (cond b (Some (row_with (g l) l)) (row_of (rows_by g ls) d)))
      [ true ↦ refl | false ↦ same_home ls d ]

  same_homes : (ls : List Laid) (u : ℕ) → homes_around (rows_by f ls) u ≡ homes_around (rows_by g ls) u
  same_homes [] u = refl
  same_homes (l ∷ ls) u = λ i. cond (l.id == u) (option_map_or (λ h. h ∷ same_homes ls h.row i) l.home []) (same_homes ls u i)

  pub same_enclosing : (ls : List Laid) (u : ℕ) → enclosing (rows_by f ls) u ≡ enclosing (rows_by g ls) u
  unfolding enclosing
  same_enclosing ls u =
      ap (λ l. homes_around l u) (sym (map-reverse (λ (l : Laid). row_with (f l) l) ls))
      ∙ (same_homes (reverse ls) u ∙ ap (λ l. homes_around l u) (map-reverse (λ (l : Laid). row_with (g l) l) ls))

  -- what is in scope, and so is each further value of the same name
  pub same_scope : (ls : List Laid) (v : Val) (k u : ℕ) → is_in_scope (rows_by f ls) (value_at v k) u ≡ is_in_scope (rows_by g ls) v u
  same_scope ls (Res d o) k u =
      λ i. same_earlier ls d u i
      && (option_map_or (λ (h : Home). list_any (λ (x : Home). (h.row == x.row) && (h.region == x.region)) (same_enclosing ls u i)) (same_home ls d i) false
      && not (list_any (λ (h : Home). h.row == d) (same_enclosing ls u i)))
  same_scope ls (Arg d r j) k u = λ i. list_any (λ (x : Home). (d == x.row) && (r == x.region)) (same_enclosing ls u i)
