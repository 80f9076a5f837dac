-- The first operand that isn't visible, and that there is none exactly where all are.
use Rattle.std.proofs.Common.{◌≡◌, ◌<◌, ◌≤◌, ◌+◌, ◌^◌, ◌↔◌, ℕ, zero, suc, Bool, true, false, not, cond, List, [], ◌∷◌, length, drop, get_or, Option, Some, None, refl, sym, ap, ◌∙◌, arith}
use Rattle.std.specs.Prelude.{All, position}
use Rattle.std.specs.Option.{option_or, option_map, option_map_or}
use Rattle.std.specs.List.{position_from, AllByRecursion}
use Rattle.std.proofs.lemmas.Option.{slice_get-get_or}
use Rattle.std.proofs.lemmas.Iterator.Adapters.{position_from-zero}
use Rattle.std.proofs.lemmas.List.{drop_all}
use Rattle.std.proofs.lemmas.List.Elements.{All-from_recursion}
use Rattle.mlir_tree.specs.declared.row.Row.{Row}
use Rattle.mlir_tree.specs.declared.value.Val.{Val}
use Rattle.mlir_tree.specs.declared.bad_use.BadUse.{BadUse}
use Rattle.mlir_tree.specs.Module.{is_visible, IsVisible}
use Rattle.mlir_tree.specs.WellFormed.{HasVisibleOperands, HasSizes}
use Rattle.row_index.specs.BadUses.{bad_place, bad_use_of, first_bad_use, bad_use}
use Rattle.row_index.specs.Walking.{sees_at, bad_place_at, operands_at}

-- ---- the loop

operands_are : (rows : List Row) (at : ℕ) (d : Row) → at < length rows → operands_at rows at ≡ (get_or rows at d).operands
operands_are rows at d fits = ap (λ (o : Option Row). option_map_or (λ r. r.operands) o []) (slice_get-get_or rows at d fits)

place_is : (rows : List Row) (at : ℕ) (d : Row) → at < length rows → bad_place_at rows at ≡ bad_place rows (get_or rows at d)
unfolding sees_at
place_is rows at d fits =
    λ i. position (λ v. not (option_map_or (λ (r : Row). is_visible rows v r.id) (slice_get-get_or rows at d fits i) false)) (operands_are rows at d fits i)

first_of : (all rows : List Row) (at : ℕ) (d : Row) → at < length rows → first_bad_use all (drop at rows) ≡ option_or (bad_use_of all (get_or rows at d)) (first_bad_use all (drop (suc at) rows))
first_of all [] at d fits = absurd (omega (arith, fits))
first_of all (r ∷ rows) zero d fits = refl
first_of all (r ∷ rows) (suc at) d fits = first_of all rows at d (omega (arith, fits))

pub found : (rows : List Row) (at k : ℕ) (d : Row) → at < length rows → bad_place_at rows at ≡ Some k → first_bad_use rows (drop at rows) ≡ bad_use rows
    → Some (record { row = (get_or rows at d).id; place = k }) ≡ bad_use rows
found rows at k d fits is so =
    let here : bad_use_of rows (get_or rows at d) ≡ Some (record { row = (get_or rows at d).id; place = k }) = ap (option_map (λ (j : ℕ). record { row = (get_or rows at d).id; place = j })) (sym (place_is rows at d fits) ∙ is) in
    sym (sym so ∙ (first_of rows rows at d fits ∙ ap (λ o. option_or o (first_bad_use rows (drop (suc at) rows))) here))

pub passed : (rows : List Row) (at : ℕ) → at < length rows → bad_place_at rows at ≡ None → first_bad_use rows (drop at rows) ≡ bad_use rows → first_bad_use rows (drop (at + 1) rows) ≡ bad_use rows
passed [] at fits is so = absurd (omega (arith, fits))
passed (d ∷ more) at fits is so =
    let rows = d ∷ more in
    let here : bad_use_of rows (get_or rows at d) ≡ None = ap (option_map (λ (j : ℕ). record { row = (get_or rows at d).id; place = j })) (sym (place_is rows at d fits) ∙ is) in
    let next : at + 1 ≡ suc at = omega arith in
    ap (λ n. first_bad_use rows (drop n rows)) next ∙ (sym (first_of rows rows at d fits ∙ ap (λ o. option_or o (first_bad_use rows (drop (suc at) rows))) here) ∙ so)

pub begun : (rows : List Row) → first_bad_use rows rows ≡ bad_use rows
unfolding bad_use
begun rows = refl

pub ended : (rows : List Row) (at : ℕ) → length rows ≤ at → first_bad_use rows (drop at rows) ≡ bad_use rows → None ≡ bad_use rows
ended rows at le so = ap (first_bad_use rows) (sym (drop_all at rows le)) ∙ so

-- ---- none exactly where all are visible

abbrev Seen : List Row → ℕ → List Val → Type 0
Seen rows u vs = AllByRecursion (λ v. IsVisible rows v u) vs

all_seen : (rows : List Row) (u i : ℕ) (vs : List Val) → position_from (λ v. not (is_visible rows v u)) i vs ≡ None → Seen rows u vs
all_seen rows u i [] h = tt
all_seen rows u i (v ∷ vs) h = by_test (is_visible rows v u) refl h (all_seen rows u (i + 1) vs)
  where
    by_test : (b : Bool) → is_visible rows v u ≡ b → cond (not b) (Some i) (position_from (λ v. not (is_visible rows v u)) (i + 1) vs) ≡ None
        → (position_from (λ v. not (is_visible rows v u)) (i + 1) vs ≡ None → Seen rows u vs) → IsVisible rows v u × Seen rows u vs
    by_test true e none rest = (e, rest none)
    by_test false e none rest = absurd (cc)

none_bad : (rows : List Row) (u i : ℕ) (vs : List Val) → Seen rows u vs → position_from (λ v. not (is_visible rows v u)) i vs ≡ None
none_bad rows u i [] all = refl
none_bad rows u i (v ∷ vs) all = (λ j. cond (not (all.0 j)) (Some i) (position_from (λ v. not (is_visible rows v u)) (i + 1) vs)) ∙ none_bad rows u (i + 1) vs all.1

to_recursion : {X : Type 0} (P : X → Type 0) (xs : List X) → All P xs → AllByRecursion P xs
to_recursion P [] all = tt
to_recursion P (x ∷ xs) all = (all 0 x (omega arith), to_recursion P xs (λ k d l. all (suc k) d (omega (arith, l))))

abbrev Visible : List Row → List Row → Type 0
Visible all rows = AllByRecursion (HasVisibleOperands all) rows

or_none : {A : Type 0} (o p : Option A) → option_or o p ≡ None → (o ≡ None) × (p ≡ None)
or_none None p h = (refl, h)
or_none (Some x) p h = absurd (cc)

abbrev at_row : ℕ → ℕ → BadUse
at_row n k = record { row = n; place = k }

map_none : (n : ℕ) (o : Option ℕ) → option_map (at_row n) o ≡ None → o ≡ None
map_none n None h = refl
map_none n (Some k) h = absurd (cc)

-- the two ways to write the first place that passes
from_zero : {B : Type 0} (t : B → Bool) (xs : List B) → position t xs ≡ position_from t 0 xs
from_zero t xs = position_from-zero t xs

visible_from : (all rows : List Row) → first_bad_use all rows ≡ None → Visible all rows
visible_from all [] h = tt
visible_from all (r ∷ rows) h =
    let q = or_none (bad_use_of all r) (first_bad_use all rows) h in
    let none = sym (from_zero (λ v. not (is_visible all v r.id)) r.operands) ∙ map_none r.id (bad_place all r) q.0 in
    (All-from_recursion (λ v. IsVisible all v r.id) r.operands (all_seen all r.id 0 r.operands none), visible_from all rows q.1)

none_from : (all rows : List Row) → Visible all rows → first_bad_use all rows ≡ None
none_from all [] h = refl
none_from all (r ∷ rows) h =
    let none : bad_place all r ≡ None = from_zero (λ v. not (is_visible all v r.id)) r.operands ∙ none_bad all r.id 0 r.operands (to_recursion (λ v. IsVisible all v r.id) r.operands h.0) in
    ap (λ o. option_or (option_map (at_row r.id) o) (first_bad_use all rows)) none ∙ none_from all rows h.1

pub none_exactly : (rows : List Row) → (bad_use rows ≡ None) ↔ All (HasVisibleOperands rows) rows
unfolding bad_use
none_exactly rows =
    ((λ h. All-from_recursion (HasVisibleOperands rows) rows (visible_from rows rows h)), (λ h. none_from rows rows (to_recursion (HasVisibleOperands rows) rows h)))

-- a place of a row is below the limit
pub fits_place : (rows : List Row) (at k : ℕ) (d : Row) → at < length rows → k < length (operands_at rows at) → All HasSizes rows → k < 2 ^ 16
fits_place rows at k d fits l sizes = omega (arith, ap length (operands_are rows at d fits), l, (sizes at d fits).operands)

-- the operands of a row, from the first one
pub begun_at : (rows : List Row) (at : ℕ) (d : Row) (ops : List Val) → at < length rows → ops ≡ (get_or rows at d).operands → position_from (λ v. not (sees_at rows at v)) 0 ops ≡ bad_place_at rows at
begun_at rows at d ops fits are =
    ap (position_from (λ v. not (sees_at rows at v)) 0) (are ∙ sym (operands_are rows at d fits)) ∙ sym (from_zero (λ v. not (sees_at rows at v)) (operands_at rows at))
