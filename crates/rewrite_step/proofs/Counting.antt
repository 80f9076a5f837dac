-- Rows that are laid out have few slots.
use Rattle.std.proofs.Common.{◌≡◌, ℕ, zero, suc, ◌+◌, ◌*◌, ◌^◌, ◌<◌, ◌≤◌, Bool, true, false, ◌||◌, List, [], ◌∷◌, length, get_or, drop, map, refl, sym, ap, ◌∙◌, arith}
use Rattle.std.specs.Prelude.{nat_eq}
use Rattle.std.specs.List.{AllByRecursion, list_any}
use Rattle.std.proofs.lemmas.Bool.Decides.{nat_tests}
use Rattle.std.proofs.lemmas.List.Sums.{sum_by-cons}
use Rattle.std.proofs.lemmas.List.Elements.{recursion_from_All}
use Rattle.std.proofs.lemmas.Map.Steps.{length-le_from_distinct_below}
use Rattle.mlir_tree.specs.declared.row.Row.{Row}
use Rattle.mlir_tree.specs.declared.rows.Rows.{Rows}
use Rattle.mlir_tree.specs.WellFormed.{HasSizes}
use Rattle.rewrite_model.specs.Laws.{IsLaidOut}
use Rattle.rewrite_model.specs.Making.{slots_of, all_slots}
use Rattle.rewrite_step.proofs.Loops.{next_item}

below : (rows : List Row) (n q : ℕ) → AllByRecursion (λ r. r.id < n) rows → list_any (nat_eq q) (map (λ r. r.id) rows) ≡ true → q < n
below [] n q all is = absurd (cc)
below (r ∷ rows) n q all is = by (nat_eq q r.id) refl is (below rows n q all.1) where
  by : (b : Bool) → nat_eq q r.id ≡ b → (b || list_any (nat_eq q) (map (λ r. r.id) rows)) ≡ true → (list_any (nat_eq q) (map (λ r. r.id) rows) ≡ true → q < n) → q < n
  by true e is rest = let here : r.id < n = all.0 in let same : q ≡ r.id = grind (arith, nat_tests, e) in omega (arith, here, same)
  by false e is rest = rest is

as_many : (rows : List Row) → length (map (λ r. r.id) rows) ≡ length rows
as_many [] = refl
as_many (r ∷ rows) = ap suc (as_many rows)

few_rows : (m : Rows) → IsLaidOut m → length m.rows ≤ m.next
few_rows m laid =
    let all = recursion_from_All (λ (r : Row). r.id < m.next) m.rows laid.numbers.below_next in
    let le : length (map (λ (r : Row). r.id) m.rows) ≤ m.next =
    length-le_from_distinct_below (map (λ (r : Row). r.id) m.rows) m.next laid.numbers.differ (λ q is. below m.rows m.next q all is) in
    omega (arith, le, as_many m.rows)

one_row : (r : Row) (rows : List Row) → all_slots (r ∷ rows) ≡ (length r.operands + length r.results) + all_slots rows
one_row r rows = sum_by-cons slots_of r rows

slots_of_rows : (rows : List Row) → AllByRecursion HasSizes rows → all_slots rows ≤ 131072 * length rows
slots_of_rows [] all = omega arith
slots_of_rows (r ∷ rows) all = more (all_slots (r ∷ rows)) (one_row r rows) (slots_of_rows rows all.1) where
  more : (n : ℕ) → n ≡ (length r.operands + length r.results) + all_slots rows → all_slots rows ≤ 131072 * length rows → n ≤ 131072 * suc (length rows)
  more n is rest =
      let here : HasSizes r = all.0 in
      let operands : length r.operands < 65536 = here.operands in
      let results : length r.results < 65536 = here.results in
      omega (arith, is, operands, results, rest)

rest_less : (rows : List Row) (i : ℕ) → all_slots (drop i rows) ≤ all_slots rows
rest_less [] zero = omega arith
rest_less [] (suc i) = omega arith
rest_less (r ∷ rows) zero = omega arith
rest_less (r ∷ rows) (suc i) = more (all_slots (drop i rows)) (all_slots (r ∷ rows)) (one_row r rows) (rest_less rows i) where
  more : (k n : ℕ) → n ≡ (length r.operands + length r.results) + all_slots rows → k ≤ all_slots rows → k ≤ n
  more k n is le = omega (arith, is, le)

-- with one more row there are no more slots than of all rows
pub still_few : (rows : List Row) (at j : ℕ) (r : Row) → at ≡ j + 1 → j < length rows → r ≡ get_or rows j r → all_slots (drop at rows) + (length r.operands + length r.results) ≤ all_slots rows
still_few rows at j r is h same =
    let parts = next_item rows j r h same in
    let all : all_slots (drop j rows) ≡ (length r.operands + length r.results) + all_slots (drop (j + 1) rows) = ap all_slots parts ∙ one_row r (drop (j + 1) rows) in
    let rest : all_slots (drop (j + 1) rows) ≡ all_slots (drop at rows) = ap (λ n. all_slots (drop n rows)) (sym is) in
    omega (arith, all, rest, rest_less rows j)

pub few_slots : (m : Rows) → IsLaidOut m → m.next < 2 ^ 32 → all_slots m.rows < 2 ^ 64
few_slots m laid small =
    let rows : length m.rows ≤ m.next = few_rows m laid in
    let slots : all_slots m.rows ≤ 131072 * length m.rows = slots_of_rows m.rows (recursion_from_All HasSizes m.rows laid.sizes) in
    omega (arith, rows, slots, small)
