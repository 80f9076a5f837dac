-- What numbers say of a row.
use Rattle.std.proofs.Common.{◌≡◌, ℕ, suc, ◌+◌, ◌<◌, ◌^◌, Bool, true, false, cond, List, [], ◌∷◌, take, Option, Some, None, refl, sym, ap, subst, ◌∙◌, inl, inr, arith}
use Rattle.std.specs.Prelude.{◌==◌, slice_get, unwrap_or, IfSome, IsTrue}
use Rattle.std.specs.Option.{option_map, option_map_or, option_and_then}
use Rattle.std.proofs.lemmas.Option.{none-some, same_Some}
use Rattle.mlir_tree.specs.declared.row.Row.{Row}
use Rattle.mlir_tree.specs.Module.{row_of, has_argument}
use Rattle.mlir_print.specs.declared.numbers.Numbers.{Numbers}
use Rattle.mlir_print.specs.declared.numbers.RowNumbers.{RowNumbers}
use Rattle.mlir_print.specs.Numbering.{place_of, with_results, result_number, argument_number}
use Rattle.mlir_print.specs.NumberMaps.{AreNumbersOf, entry_in, argument_in}
use Rattle.row_index.specs.Indexing.{place_from, Indexes}
use Rattle.mlir_tree.proofs.Places.{true_or_false}

-- the row at the place of a number
pub record Found (rows : List Row) (d i : ℕ) : Type 0 where
  pub row : Row
  pub there : slice_get rows i ≡ Some row
  pub is : row_of rows d ≡ Some row

pub found_there : (rows : List Row) (d i : ℕ) → place_of rows d ≡ Some i → Found rows d i
found_there [] d i p = absurd (none-some i p)
found_there (x ∷ xs) d i p = elim (true_or_false (x.id == d)) [
  | inl here ↦
      let e : i ≡ 0 = sym (same_Some 0 i ((λ k. cond (sym here k) (Some 0) (option_map suc (place_of xs d))) ∙ p)) in
      record { row = x; there = ap (slice_get (x ∷ xs)) e; is = λ k. cond (here k) (Some x) (row_of xs d) }
  | inr there ↦ later there (λ k e. found_there xs d k e) (place_of xs d) refl ((λ k. cond (sym there k) (Some 0) (option_map suc (place_of xs d))) ∙ p)
]
  where
    later : (x.id == d) ≡ false → ((k : ℕ) → place_of xs d ≡ Some k → Found xs d k) → (o : Option ℕ) → place_of xs d ≡ o → option_map suc o ≡ Some i → Found (x ∷ xs) d i
    later other found None e q = absurd (none-some i q)
    later other found (Some k) e q =
        let f = found k e in
        record { row = f.row; there = ap (slice_get (x ∷ xs)) (sym (same_Some (suc k) i q)) ∙ f.there; is = (λ l. cond (other l) (Some x) (row_of xs d)) ∙ f.is }

pub none_there : (rows : List Row) (d : ℕ) → place_of rows d ≡ None → row_of rows d ≡ None
none_there [] d p = refl
none_there (x ∷ xs) d p = elim (true_or_false (x.id == d)) [
  | inl here ↦ absurd (none-some 0 (sym p ∙ (λ k. cond (here k) (Some 0) (option_map suc (place_of xs d)))))
  | inr there ↦ later there (λ e. none_there xs d e) (place_of xs d) refl ((λ k. cond (sym there k) (Some 0) (option_map suc (place_of xs d))) ∙ p)
]
  where
    later : (x.id == d) ≡ false → (place_of xs d ≡ None → row_of xs d ≡ None) → (o : Option ℕ) → place_of xs d ≡ o → option_map suc o ≡ None → row_of (x ∷ xs) d ≡ None
    later other none None e q = (λ l. cond (other l) (Some x) (row_of xs d)) ∙ none e
    later other none (Some k) e q = absurd (none-some (suc k) (sym q))

-- ---- the places of an index

place_some : (rows : List Row) (d at i : ℕ) → place_of rows d ≡ Some i → place_from at rows d ≡ Some (at + i)
place_some [] d at i p = absurd (none-some i p)
place_some (x ∷ xs) d at i p = by (x.id == d) p (place_of xs d) refl (λ k. place_some xs d (at + 1) k)
  where
    by : (b : Bool) → cond b (Some 0) (option_map suc (place_of xs d)) ≡ Some i → (o : Option ℕ) → place_of xs d ≡ o → ((k : ℕ) → place_of xs d ≡ Some k → place_from (at + 1) xs d ≡ Some ((at + 1) + k))
        → cond b (Some at) (place_from (at + 1) xs d) ≡ Some (at + i)
    by true p o e go = let s : 0 ≡ i = same_Some 0 i p in ap (λ n. Some n) (let t : at ≡ at + i = omega (arith, s) in t)
    by false p None e go = absurd (none-some i (sym (ap (option_map suc) e) ∙ p))
    by false p (Some k) e go =
        let s : suc k ≡ i = same_Some (suc k) i (sym (ap (option_map suc) e) ∙ p) in
        go k e ∙ ap (λ n. Some n) (let t : (at + 1) + k ≡ at + i = omega (arith, s) in t)

place_none : (rows : List Row) (d at : ℕ) → place_of rows d ≡ None → place_from at rows d ≡ None
place_none [] d at p = refl
place_none (x ∷ xs) d at p = by (x.id == d) p (place_of xs d) refl (place_none xs d (at + 1))
  where
    by : (b : Bool) → cond b (Some 0) (option_map suc (place_of xs d)) ≡ None → (o : Option ℕ) → place_of xs d ≡ o → (place_of xs d ≡ None → place_from (at + 1) xs d ≡ None)
        → cond b (Some at) (place_from (at + 1) xs d) ≡ None
    by true p o e go = absurd (none-some 0 (sym p))
    by false p None e go = go e
    by false p (Some k) e go = absurd (none-some (suc k) (sym p ∙ ap (option_map suc) e))

pub indexed_some : (rows : List Row) (n : Numbers) → Indexes n.index rows → (d i : ℕ) → place_of rows d ≡ Some i → entry_in n d ≡ slice_get n.rows.items i
indexed_some rows n are d i p = ap (option_and_then (slice_get n.rows.items)) (are d ∙ (place_some rows d 0 i p ∙ ap (λ k. Some k) (let e : 0 + i ≡ i = omega arith in e)))

pub indexed_none : (rows : List Row) (n : Numbers) → Indexes n.index rows → (d : ℕ) → place_of rows d ≡ None → entry_in n d ≡ None
indexed_none rows n are d p = ap (option_and_then (slice_get n.rows.items)) (are d ∙ place_none rows d 0 p)

-- ---- what is kept

-- the row of an entry is there
kept_found : (rows : List Row) (n : Numbers) → AreNumbersOf rows n → (d : ℕ) (e : RowNumbers) → entry_in n d ≡ Some e → (r : Row) × (row_of rows d ≡ Some r)
kept_found rows n are d e p = by (place_of rows d) refl
  where
    by : (o : Option ℕ) → place_of rows d ≡ o → (r : Row) × (row_of rows d ≡ Some r)
    by None q = absurd (none-some e (sym (indexed_none rows n are.places d q) ∙ p))
    by (Some i) q = let f = found_there rows d i q in (f.row, f.is)

-- a row without an entry isn't there
kept_none : (rows : List Row) (n : Numbers) → AreNumbersOf rows n → (d : ℕ) → entry_in n d ≡ None → row_of rows d ≡ None
kept_none rows n are d p = by (row_of rows d) (are.results d)
  where
    by : (o : Option Row) → IfSome o (λ r. option_map (λ e. e.result) (entry_in n d) ≡ Some (result_number rows d)) → o ≡ None
    by None q = refl
    by (Some r) q = absurd (none-some (result_number rows d) (sym (ap (option_map (λ (e : RowNumbers). e.result)) p) ∙ q))

no_place : (rows : List Row) (d : ℕ) → row_of rows d ≡ None → place_of rows d ≡ None
no_place rows d p = by (place_of rows d) refl
  where
    by : (o : Option ℕ) → place_of rows d ≡ o → o ≡ None
    by None q = refl
    by (Some i) q = let f = found_there rows d i q in absurd (none-some f.row (sym p ∙ f.is))

pub kept_result : (rows : List Row) (n : Numbers) → AreNumbersOf rows n → (d : ℕ) (e : RowNumbers) → entry_in n d ≡ Some e → e.result ≡ result_number rows d
kept_result rows n are d e p =
    let f = kept_found rows n are d e p in
    let is : option_map (λ k. k.result) (entry_in n d) ≡ Some (result_number rows d)
    = subst (λ o. IfSome o (λ r. option_map (λ k. k.result) (entry_in n d) ≡ Some (result_number rows d))) f.1 (are.results d) in
    same_Some e.result (result_number rows d) (sym (ap (option_map (λ k. k.result)) p) ∙ is)

-- a row that isn't there has no rows before it
pub none_before : (rows : List Row) (n : Numbers) → AreNumbersOf rows n → (d : ℕ) → entry_in n d ≡ None → 0 ≡ result_number rows d
unfolding result_number
none_before rows n are d p = ap (λ o. with_results (take (unwrap_or o 0) rows)) (sym (no_place rows d (kept_none rows n are d p)))

-- an argument that is there
pub record Argument (rows : List Row) (e : RowNumbers) (d g k : ℕ) : Type 0 where
  pub first : ℕ
  pub there : slice_get e.arguments.items g ≡ Some first
  pub is : first + k ≡ argument_number rows d g k
  pub fits : argument_number rows d g k < 2 ^ 128

pub kept_argument : (rows : List Row) (n : Numbers) → AreNumbersOf rows n → (d g k : ℕ) (e : RowNumbers) → entry_in n d ≡ Some e
    → option_map_or (has_argument g k) (row_of rows d) false ≡ true → Argument rows e d g k
kept_argument rows n are d g k e p value =
    let f = kept_found rows n are d e p in
    let has : has_argument g k f.0 ≡ true = sym (ap (λ o. option_map_or (has_argument g k) o false) f.1) ∙ value in
    let number : argument_in n d g k ≡ Some (argument_number rows d g k)
    = subst (λ o. IfSome o (λ r. IsTrue (has_argument g k r) → argument_in n d g k ≡ Some (argument_number rows d g k))) f.1 (are.arguments d g k) has in
    let fits : argument_number rows d g k < 2 ^ 128
    = subst (λ o. IfSome o (λ r. IsTrue (has_argument g k r) → argument_number rows d g k < 2 ^ 128)) f.1 (are.fit d g k) has in
    by_first (slice_get e.arguments.items g) refl (sym (ap (option_and_then (λ (k' : RowNumbers). option_map (λ first. first + k) (slice_get k'.arguments.items g))) p) ∙ number) fits
  where
    by_first : (o : Option ℕ) → slice_get e.arguments.items g ≡ o → option_map (λ first. first + k) o ≡ Some (argument_number rows d g k) → argument_number rows d g k < 2 ^ 128 → Argument rows e d g k
    by_first None there q fits = absurd (none-some (argument_number rows d g k) q)
    by_first (Some first) there q fits = record { first = first; there = there; is = same_Some (first + k) (argument_number rows d g k) q; fits = fits }

-- the row of an argument is there
pub argument_row : (rows : List Row) (n : Numbers) → AreNumbersOf rows n → (d g k : ℕ) → entry_in n d ≡ None → option_map_or (has_argument g k) (row_of rows d) false ≡ true → ⊥
argument_row rows n are d g k p value =
    let no : false ≡ true = sym (ap (λ o. option_map_or (has_argument g k) o false) (kept_none rows n are d p)) ∙ value in absurd (cc)
