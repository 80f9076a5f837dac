-- Numbers that are kept row by row.
use Rattle.std.proofs.Common.{◌≡◌, ℕ, zero, suc, ◌+◌, ◌*◌, ◌^◌, ◌<◌, ◌≤◌, Bool, true, false, cond, List, [], ◌∷◌, ◌++◌, length, length-append, take, filter, Option, Some, None, refl, sym, ap, subst, ◌∙◌, ◌⊎◌, inl, inr, arith}
use Rattle.std.specs.Prelude.{nat_lt, slice_get, unwrap_or, All, IfSome, IsTrue}
use Rattle.std.specs.Option.{option_map, option_map_or, option_and_then}
use Rattle.std.specs.List.{IsDistinct}
use Rattle.std.proofs.lemmas.Bool.{eqb-true}
use Rattle.std.proofs.lemmas.Bool.Decides.{nat_tests}
use Rattle.std.proofs.lemmas.Option.{none-some, same_Some, slice_get_within, slice_get_cases, get_or_from_slice_get}
use Rattle.std.proofs.lemmas.List.Elements.{All-head, All-tail, All-get_or}
use Rattle.mlir_tree.specs.declared.row.Row.{Row}
use Rattle.mlir_tree.specs.Tree.{Ty}
use Rattle.mlir_tree.specs.Module.{row_of, has_argument}
use Rattle.mlir_tree.specs.WellFormed.{AreDistinct, HasSizes}
use Rattle.mlir_print.specs.declared.numbers.Numbers.{Numbers}
use Rattle.mlir_print.specs.declared.numbers.RowNumbers.{RowNumbers}
use Rattle.mlir_print.specs.Numbering.{has_results, with_results, arguments_of, arguments_in, place_of, rows_before, result_number, argument_number}
use Rattle.mlir_print.specs.Starts.{starts}
use Rattle.mlir_print.specs.NumberMaps.{entry_in, result_in, argument_in, AreNumbersOf}
use Rattle.row_index.specs.Indexing.{Indexes}
use Rattle.mlir_tree.proofs.Places.{true_or_false, IsAt, nothing_at, apart_at}
use Rattle.mlir_print.proofs.Lookups.{found_there, none_there, indexed_some}

-- ---- how many there are

pub few_arguments : (regions : List (List Ty)) → All (λ arguments. length arguments < 2 ^ 16) regions → arguments_of regions ≤ length regions * 2 ^ 16
few_arguments [] few = omega arith
few_arguments (xs ∷ regions) few =
    omega (arith, All-head (λ arguments. length arguments < 2 ^ 16) xs regions few, few_arguments regions (All-tail (λ arguments. length arguments < 2 ^ 16) xs regions few))

pub few_of_row : (r : Row) → HasSizes r → arguments_of r.regions ≤ 2 ^ 32
few_of_row r sizes = omega (arith, few_arguments r.regions sizes.arguments, sizes.regions)

arguments_of-take : (g : ℕ) (regions : List (List Ty)) → arguments_of (take g regions) ≤ arguments_of regions
arguments_of-take zero regions = omega arith
arguments_of-take (suc g) [] = omega arith
arguments_of-take (suc g) (xs ∷ regions) = omega (arith, arguments_of-take g regions)

pub few_taken : (n : ℕ) (rows : List Row) → All HasSizes rows → arguments_in (take n rows) ≤ n * 2 ^ 32
few_taken zero rows sizes = omega arith
few_taken (suc n) [] sizes = omega arith
few_taken (suc n) (r ∷ rows) sizes = omega (arith, few_of_row r (All-head HasSizes r rows sizes), few_taken n rows (All-tail HasSizes r rows sizes))

pub sizes_at : (rows : List Row) → All HasSizes rows → (n : ℕ) (r : Row) → IsAt rows n r → HasSizes r
sizes_at rows sizes n r p = subst HasSizes (get_or_from_slice_get rows n r r p) (All-get_or HasSizes rows n r (slice_get_within rows n r p) sizes)

pub few_before : (rows : List Row) → All HasSizes rows → length rows < 2 ^ 64 → (n : ℕ) (r : Row) → IsAt rows n r → arguments_in (take n rows) + arguments_of r.regions < 2 ^ 128
few_before rows sizes few n r p = omega (arith, few, slice_get_within rows n r p, few_taken n rows sizes, few_of_row r (sizes_at rows sizes n r p))

few_there : (g k : ℕ) (regions : List (List Ty)) → option_map_or (λ arguments. nat_lt k (length arguments)) (slice_get regions g) false ≡ true
    → All (λ arguments. length arguments < 2 ^ 16) regions → k < 2 ^ 16
few_there g k [] has few = absurd (cc)
few_there zero k (xs ∷ regions) has few = let some = All-head (λ arguments. length arguments < 2 ^ 16) xs regions few in grind (arith, nat_tests, has, some)
few_there (suc g) k (xs ∷ regions) has few = few_there g k regions has (All-tail (λ arguments. length arguments < 2 ^ 16) xs regions few)

take_all : (rows : List Row) → take (length rows) rows ≡ rows
take_all [] = refl
take_all (r ∷ rows) = ap (λ l. r ∷ l) (take_all rows)

-- ---- one row more

pub arguments_in-more : (rows : List Row) (n : ℕ) (r : Row) → IsAt rows n r → arguments_in (take (suc n) rows) ≡ arguments_in (take n rows) + arguments_of r.regions
arguments_in-more [] n r p = absurd (nothing_at n r p)
arguments_in-more (x ∷ xs) zero r p = let e = ap (λ (t : Row). arguments_of t.regions) (same_Some x r p) in omega (arith, e)
arguments_in-more (x ∷ xs) (suc n) r p = omega (arith, arguments_in-more xs n r p)

pub with_results-more : (rows : List Row) (n : ℕ) (r : Row) → IsAt rows n r → has_results r ≡ true → with_results (take (suc n) rows) ≡ suc (with_results (take n rows))
with_results-more [] n r p has = absurd (nothing_at n r p)
with_results-more (x ∷ xs) zero r p has = λ i. length (cond ((ap has_results (same_Some x r p) ∙ has) i) (x ∷ []) [])
with_results-more (x ∷ xs) (suc n) r p has = by_first (has_results x) (with_results-more xs n r p has)
  where
    by_first : (b : Bool) → with_results (take (suc n) xs) ≡ suc (with_results (take n xs))
        → length (cond b (x ∷ filter has_results (take (suc n) xs)) (filter has_results (take (suc n) xs))) ≡ suc (length (cond b (x ∷ filter has_results (take n xs)) (filter has_results (take n xs))))
    by_first true e = ap suc e
    by_first false e = e

pub with_results-same : (rows : List Row) (n : ℕ) (r : Row) → IsAt rows n r → has_results r ≡ false → with_results (take (suc n) rows) ≡ with_results (take n rows)
with_results-same [] n r p has = absurd (nothing_at n r p)
with_results-same (x ∷ xs) zero r p has = λ i. length (cond ((ap has_results (same_Some x r p) ∙ has) i) (x ∷ []) [])
with_results-same (x ∷ xs) (suc n) r p has = by_first (has_results x) (with_results-same xs n r p has)
  where
    by_first : (b : Bool) → with_results (take (suc n) xs) ≡ with_results (take n xs)
        → length (cond b (x ∷ filter has_results (take (suc n) xs)) (filter has_results (take (suc n) xs))) ≡ length (cond b (x ∷ filter has_results (take n xs)) (filter has_results (take n xs)))
    by_first true e = ap suc e
    by_first false e = e

-- ---- what is kept of rows

-- what is kept of the row at this place
pub record IsKept (rows : List Row) (place : ℕ) (e : RowNumbers) : Type 0 where
  pub result : e.result ≡ with_results (take place rows)
  pub arguments : (r : Row) → slice_get rows place ≡ Some r → e.arguments.items ≡ starts (arguments_in (take place rows)) r.regions

-- the first n rows are kept
abbrev pub AreKept : List Row → ℕ → List RowNumbers → Type 0
AreKept rows n kept = (length kept ≡ n) × ((place : ℕ) (e : RowNumbers) → slice_get kept place ≡ Some e → IsKept rows place e)

pub kept_nothing : (rows : List Row) → AreKept rows 0 []
kept_nothing rows = (refl, λ place e p. absurd (none-some e p))

last_or_before : (kept : List RowNumbers) (e x : RowNumbers) (i : ℕ) → slice_get (kept ++ (e ∷ [])) i ≡ Some x → (slice_get kept i ≡ Some x) ⊎ ((i ≡ length kept) × (e ≡ x))
last_or_before [] e x zero p = inr (refl, same_Some e x p)
last_or_before [] e x (suc i) p = absurd (none-some x p)
last_or_before (y ∷ kept) e x zero p = inl p
last_or_before (y ∷ kept) e x (suc i) p = elim (last_or_before kept e x i p) [
  | inl q ↦ inl q
  | inr q ↦ inr (ap suc q.0, q.1)
]

pub keep_more : (rows : List Row) (n : ℕ) (kept : List RowNumbers) (e : RowNumbers) → AreKept rows n kept → IsKept rows n e → AreKept rows (suc n) (kept ++ (e ∷ []))
keep_more rows n kept e are is = (
  length-append kept (e ∷ []) ∙ (let s : length kept + 1 ≡ suc n = omega (arith, are.0) in s),
  λ place x p. elim (last_or_before kept e x place p) [
    | inl q ↦ are.1 place x q
    | inr q ↦ subst (λ y. IsKept rows place y) q.1 (subst (λ k. IsKept rows k e) (sym (q.0 ∙ are.0)) is)
  ],
)

-- ---- the numbers are those of the rows

starts_at : (first g k : ℕ) (regions : List (List Ty)) → option_map_or (λ arguments. nat_lt k (length arguments)) (slice_get regions g) false ≡ true
    → slice_get (starts first regions) g ≡ Some (first + arguments_of (take g regions))
starts_at first g k [] has = absurd (cc)
starts_at first zero k (xs ∷ regions) has = let e : first ≡ first + 0 = omega arith in ap (λ n. Some n) e
starts_at first (suc g) k (xs ∷ regions) has =
    let e : (first + length xs) + arguments_of (take g regions) ≡ first + (length xs + arguments_of (take g regions)) = omega arith in
    starts_at (first + length xs) g k regions has ∙ ap (λ n. Some n) e

in_each : {P : Type 0} (o : Option Row) → P → IfSome o (λ r. P)
in_each None p = tt
in_each (Some r) p = p

in_found : (P : Row → Type 0) (o : Option Row) (r : Row) → o ≡ Some r → P r → IfSome o P
in_found P o r e p = subst (λ o. IfSome o P) (sym e) p

in_none : (P : Row → Type 0) (o : Option Row) → o ≡ None → IfSome o P
in_none P o e = subst (λ o. IfSome o P) (sym e) tt

-- the entry of row d, which stands at this place
abbrev Kept : List Row → Numbers → ℕ → ℕ → RowNumbers → Type 0
Kept rows m d place e = (entry_in m d ≡ Some e) × (place_of rows d ≡ Some place) × IsKept rows place e

-- its entry, where the row is there
abbrev Known : List Row → Numbers → ℕ → Type 0
Known rows m d = (place_of rows d ≡ None) ⊎ ((place : ℕ) × (e : RowNumbers) × Kept rows m d place e)

kept_result : (rows : List Row) (m : Numbers) (d : ℕ) → Known rows m d → IfSome (row_of rows d) (λ r. result_in m d ≡ Some (result_number rows d))
unfolding result_number
kept_result rows m d (inl none) = in_none (λ r. result_in m d ≡ Some (with_results (rows_before rows d))) (row_of rows d) (none_there rows d none)
kept_result rows m d (inr (place, e, k)) =
    in_each (row_of rows d)
    (ap (option_map (λ x. x.result)) k.0 ∙ ap (λ n. Some n) (k.2.result ∙ ap (λ o. with_results (take (unwrap_or o 0) rows)) (sym k.1)))

kept_argument : (rows : List Row) (m : Numbers) (d g k : ℕ) → Known rows m d
    → IfSome (row_of rows d) (λ r. IsTrue (has_argument g k r) → argument_in m d g k ≡ Some (argument_number rows d g k))
unfolding argument_number
kept_argument rows m d g k (inl none) =
    in_none (λ r. IsTrue (has_argument g k r) → argument_in m d g k ≡ Some (arguments_in (rows_before rows d) + (option_map_or (λ r. arguments_of (take g r.regions)) (row_of rows d) 0 + k)))
    (row_of rows d) (none_there rows d none)
kept_argument rows m d g k (inr (place, e, p)) =
    let f = found_there rows d place p.1 in
    in_found (λ r. IsTrue (has_argument g k r) → argument_in m d g k ≡ Some (arguments_in (rows_before rows d) + (option_map_or (λ r. arguments_of (take g r.regions)) (row_of rows d) 0 + k)))
    (row_of rows d) f.row f.is (λ has.
    let sum : (arguments_in (take place rows) + arguments_of (take g f.row.regions)) + k ≡ arguments_in (take place rows) + (arguments_of (take g f.row.regions) + k) = omega arith in
    ap (option_and_then (λ x. option_map (λ first. first + k) (slice_get x.arguments.items g))) p.0
    ∙ (ap (λ l. option_map (λ first. first + k) (slice_get l g)) (p.2.arguments f.row f.there)
    ∙ (ap (option_map (λ first. first + k)) (starts_at (arguments_in (take place rows)) g k f.row.regions has)
    ∙ (ap (λ n. Some n) sum
    ∙ (λ i. Some (arguments_in (take (unwrap_or (sym p.1 i) 0) rows) + (option_map_or (λ r. arguments_of (take g r.regions)) (sym f.is i) 0 + k)))))))

number_fits : (rows : List Row) → All HasSizes rows → length rows < 2 ^ 64 → (m : Numbers) (d g k : ℕ) → Known rows m d
    → IfSome (row_of rows d) (λ r. IsTrue (has_argument g k r) → argument_number rows d g k < 2 ^ 128)
unfolding argument_number
number_fits rows sizes few m d g k (inl none) =
    in_none (λ r. IsTrue (has_argument g k r) → arguments_in (rows_before rows d) + (option_map_or (λ r. arguments_of (take g r.regions)) (row_of rows d) 0 + k) < 2 ^ 128)
    (row_of rows d) (none_there rows d none)
number_fits rows sizes few m d g k (inr (place, e, p)) =
    let f = found_there rows d place p.1 in
    let within = slice_get_within rows place f.row f.there in
    let size = sizes_at rows sizes place f.row f.there in
    in_found (λ r. IsTrue (has_argument g k r) → arguments_in (rows_before rows d) + (option_map_or (λ r. arguments_of (take g r.regions)) (row_of rows d) 0 + k) < 2 ^ 128)
    (row_of rows d) f.row f.is (λ has.
    let is : arguments_in (take (unwrap_or (place_of rows d) 0) rows) + (option_map_or (λ r. arguments_of (take g r.regions)) (row_of rows d) 0 + k) ≡ arguments_in (take place rows) + (arguments_of (take g f.row.regions) + k)
    = λ i. arguments_in (take (unwrap_or (p.1 i) 0) rows) + (option_map_or (λ r. arguments_of (take g r.regions)) (f.is i) 0 + k) in
    omega (arith, is, within, few, few_taken place rows sizes, arguments_of-take g f.row.regions, few_of_row f.row size, few_there g k f.row.regions has size.arguments))

pub numbers_are : (rows : List Row) → All HasSizes rows → length rows < 2 ^ 64 → (m : Numbers) → Indexes m.index rows → AreKept rows (length rows) m.rows.items → AreNumbersOf rows m
numbers_are rows sizes few m indexed kept = record {
  results = λ d. kept_result rows m d (known d);
  arguments = λ d g k. kept_argument rows m d g k (known d);
  places = indexed;
  fit = λ d g k. number_fits rows sizes few m d g k (known d);
}
  where
    at : (d place : ℕ) → place_of rows d ≡ Some place → place < length rows → Known rows m d
    at d place p within = elim (slice_get_cases m.rows.items place).1 [
      | inl c ↦ inr (place, c.0, (indexed_some rows m indexed d place p ∙ c.2, p, kept.1 place c.0 c.2))
      | inr c ↦ absurd (omega (arith, c.0, within, kept.0))
    ]

    by : (d : ℕ) (o : Option ℕ) → place_of rows d ≡ o → Known rows m d
    by d None p = inl p
    by d (Some place) p = let f = found_there rows d place p in at d place p (slice_get_within rows place f.row f.there)

    known : (d : ℕ) → Known rows m d
    known d = by d (place_of rows d) refl
