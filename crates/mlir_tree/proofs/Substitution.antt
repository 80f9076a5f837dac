-- Other operands leave visibility as it is.
use Rattle.std.proofs.Common.{◌≡◌, ℕ, true, false, ◌&&◌, ◌||◌, cond, List, [], ◌∷◌, map, reverse, Option, Some, None, refl, sym, ap, ◌∙◌}
use Rattle.std.specs.Prelude.{◌==◌}
use Rattle.std.specs.Option.{option_map_or, option_map, option_and_then}
use Rattle.mlir_tree.specs.declared.row.Row.{Row}
use Rattle.mlir_tree.specs.declared.value.Val.{Val}
use Rattle.mlir_tree.specs.declared.value.Val.TheVariants.{Res, Arg}
use Rattle.mlir_tree.specs.Module.{row_of, has_row, is_earlier, home_of, homes_around, enclosing, has_result, has_argument, is_value, is_visible}
use Rattle.mlir_tree.specs.Edits.{substituted_row, substituted}
use Rattle.mlir_tree.specs.Laws.{SubstitutionKeepsVisibility}
use Rattle.mlir_tree.proofs.Visibility.{map-reverse, scope_of_result, scope_of_argument}

-- a row with other operands is found as the row was
pub row_of-substituted : (from to : List Val) (rows : List Row) (d : ℕ) → row_of (map (substituted_row from to) rows) d ≡ option_map (substituted_row from to) (row_of rows d)
row_of-substituted from to [] d = refl
row_of-substituted from to (r ∷ rows) d =
    elim (r.id == d) as (λ b. cond b (Some (substituted_row from to r)) (row_of (map (substituted_row from to) rows) d) ≡ option_map (substituted_row from to) (cond b (Some r) (row_of rows d)))
    [ true ↦ refl | false ↦ row_of-substituted from to rows d ]

pub has_row-substituted : (from to : List Val) (rows : List Row) (u : ℕ) → has_row (map (substituted_row from to) rows) u ≡ has_row rows u
has_row-substituted from to [] u = refl
has_row-substituted from to (r ∷ rows) u = λ i. (r.id == u) || has_row-substituted from to rows u i

pub is_earlier-substituted : (from to : List Val) (rows : List Row) (d u : ℕ) → is_earlier (map (substituted_row from to) rows) d u ≡ is_earlier rows d u
is_earlier-substituted from to [] d u = refl
is_earlier-substituted from to (r ∷ rows) d u = λ i. ((r.id == d) && has_row-substituted from to rows u i) || is_earlier-substituted from to rows d u i

homes_around-substituted : (from to : List Val) (rows : List Row) (u : ℕ) → homes_around (map (substituted_row from to) rows) u ≡ homes_around rows u
homes_around-substituted from to [] u = refl
homes_around-substituted from to (r ∷ rows) u =
    λ i. cond (r.id == u) (option_map_or (λ h. h ∷ homes_around-substituted from to rows h.row i) r.home []) (homes_around-substituted from to rows u i)

pub enclosing-substituted : (from to : List Val) (rows : List Row) (u : ℕ) → enclosing (map (substituted_row from to) rows) u ≡ enclosing rows u
unfolding enclosing
enclosing-substituted from to rows u =
    ap (λ l. homes_around l u) (sym (map-reverse (substituted_row from to) rows)) ∙ homes_around-substituted from to (reverse rows) u

-- what is read of the row that has a value
home_same : (from to : List Val) (o : Option Row) → option_and_then (λ r. r.home) (option_map (substituted_row from to) o) ≡ option_and_then (λ r. r.home) o
home_same from to None = refl
home_same from to (Some r) = refl

result_same : (from to : List Val) (k : ℕ) (o : Option Row) → option_map_or (has_result k) (option_map (substituted_row from to) o) false ≡ option_map_or (has_result k) o false
result_same from to k None = refl
result_same from to k (Some r) = refl

argument_same : (from to : List Val) (g k : ℕ) (o : Option Row) → option_map_or (has_argument g k) (option_map (substituted_row from to) o) false ≡ option_map_or (has_argument g k) o false
argument_same from to g k None = refl
argument_same from to g k (Some r) = refl

home_of-substituted : (from to : List Val) (rows : List Row) (d : ℕ) → home_of (map (substituted_row from to) rows) d ≡ home_of rows d
home_of-substituted from to rows d = ap (option_and_then (λ r. r.home)) (row_of-substituted from to rows d) ∙ home_same from to (row_of rows d)

pub substitution_keeps_visibility : SubstitutionKeepsVisibility
unfolding is_visible substituted
substitution_keeps_visibility m from to (Res d k) u =
    let value : is_value (map (substituted_row from to) m.rows) (Res d k) ≡ is_value m.rows (Res d k)
    = ap (λ o. option_map_or (has_result k) o false) (row_of-substituted from to m.rows d) ∙ result_same from to k (row_of m.rows d) in
    λ i. value i && scope_of_result (is_earlier-substituted from to m.rows d u i) (home_of-substituted from to m.rows d i) (enclosing-substituted from to m.rows u i) d
substitution_keeps_visibility m from to (Arg d g k) u =
    let value : is_value (map (substituted_row from to) m.rows) (Arg d g k) ≡ is_value m.rows (Arg d g k)
    = ap (λ o. option_map_or (has_argument g k) o false) (row_of-substituted from to m.rows d) ∙ argument_same from to g k (row_of m.rows d) in
    λ i. value i && scope_of_argument (enclosing-substituted from to m.rows u i) d g
