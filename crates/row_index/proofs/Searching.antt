-- Finding a row by its number.
use Rattle.std.proofs.Common.{◌≡◌, ◌<◌, ◌≤◌, ◌+◌, ◌-◌, ℕ, Bool, true, false, ◌⊎◌, inl, inr, List, [], ◌∷◌, length, get_or, Option, Some, None, Result, Ok, Err, refl, sym, ap, subst, ◌∙◌, arith, ⊎_elim}
use Rattle.std.specs.Prelude.{◌==◌, nat_lt, slice_get, MatchResult, IfSome}
use Rattle.std.specs.Option.{option_map}
use Rattle.std.specs.Result.{result_ok}
use Rattle.std.specs.List.Sorted.{IsBinarySearchResult}
use Rattle.std.specs.Ordering.{nat_cmp, ordering_index}
use Rattle.std.specs.declared.cmp.Ordering.{Ordering}
use Rattle.std.specs.declared.cmp.Ordering.TheVariants.{Less, Equal, Greater}
use Rattle.std.proofs.lemmas.Bool.Decides.{nat_tests}
use Rattle.std.proofs.lemmas.Option.{slice_get-get_or, slice_get_within}
use Rattle.std.proofs.lemmas.List.Folds.{list_any_none}
use Rattle.mlir_tree.specs.declared.row.Row.{Row}
use Rattle.mlir_tree.specs.Module.{has_row}
use Rattle.row_index.specs.Walking.{number_at, AreRisingNumbers}

pub order : (a b : ℕ) → (a < b) ⊎ (b ≤ a)
order a b = by_test (nat_lt a b) refl
  where
    by_test : (t : Bool) → nat_lt a b ≡ t → (a < b) ⊎ (b ≤ a)
    by_test true e = inl (grind (arith, nat_tests))
    by_test false e = inr (grind (arith, nat_tests))

pub at_place : (rows : List Row) (i : ℕ) (d : Row) → i < length rows → number_at rows i ≡ Some (get_or rows i d).id
at_place rows i d l = ap (option_map (λ r. r.id)) (slice_get-get_or rows i d l)

-- the number that is read at a place
pub read_at : (rows : List Row) (i n : ℕ) (d : Row) → number_at rows i ≡ Some n → i < length rows → (get_or rows i d).id ≡ n
read_at rows i n d is l = let same : Some (get_or rows i d).id ≡ Some n = sym (at_place rows i d l) ∙ is in cc

pub within : (rows : List Row) (i n : ℕ) → number_at rows i ≡ Some n → i < length rows
within rows i n is = by_read (slice_get rows i) refl is
  where
    by_read : (o : Option Row) → slice_get rows i ≡ o → option_map (λ (r : Row). r.id) o ≡ Some n → i < length rows
    by_read None e h = absurd (cc)
    by_read (Some r) e h = slice_get_within rows i r e

-- ---- rising numbers, pair by pair

abbrev pub RiseBefore : List Row → ℕ → Type 0
RiseBefore rows k = (i j n m : ℕ) → i < j → j < k → number_at rows i ≡ Some n → number_at rows j ≡ Some m → n < m

pub rise_on : (rows : List Row) (k : ℕ) (d e : Row) → 0 < k → k < length rows → (get_or rows (k - 1) d).id < (get_or rows k e).id → RiseBefore rows k → RiseBefore rows (k + 1)
rise_on rows k d e some fits up before i j n m lt le at_i at_j = ⊎_elim (λ l. before i j n m lt l at_i at_j) last (order j k)
  where
    last : k ≤ j → n < m
    last l =
        let here : j ≡ k = omega (arith, l, le) in
        let m_is : (get_or rows k e).id ≡ m = read_at rows k m e (subst (λ (x : ℕ). number_at rows x ≡ Some m) here at_j) fits in
        ⊎_elim
        (λ earlier. let mid = before i (k - 1) n (get_or rows (k - 1) d).id earlier (omega (arith, some)) at_i (at_place rows (k - 1) d (omega (arith, some, fits))) in omega (arith, mid, up, m_is))
        (λ same. let i_is : i ≡ k - 1 = omega (arith, same, lt, here, some) in
        let n_is : (get_or rows (k - 1) d).id ≡ n = read_at rows (k - 1) n d (subst (λ (x : ℕ). number_at rows x ≡ Some n) i_is at_i) (omega (arith, some, fits)) in
        omega (arith, up, n_is, m_is))
        (order i (k - 1))

pub rise_all : (rows : List Row) (k : ℕ) → length rows ≤ k → RiseBefore rows k → AreRisingNumbers rows
rise_all rows k le before i j n m lt at_i at_j = before i j n m lt (omega (arith, le, within rows j m at_j)) at_i at_j

-- ---- halving

abbrev By : ℕ → Row → Ordering
By x r = nat_cmp r.id x

no_row : (rows : List Row) (x : ℕ) → ((k : ℕ) (d : Row) → k < length rows → ((get_or rows k d).id == x) ≡ false) → has_row rows x ≡ false
no_row rows x none = list_any_none (λ r. r.id == x) rows (λ k d l. none k d l)

less_is : (a b : ℕ) → nat_cmp a b ≡ Less → (a == b) ≡ false
less_is a b h = grind (arith, nat_tests)

greater_is : (a b : ℕ) → nat_cmp a b ≡ Greater → (a == b) ≡ false
greater_is a b h = grind (arith, nat_tests)

equal_is : (a b : ℕ) → nat_cmp a b ≡ Equal → a ≡ b
equal_is a b h = grind (arith, nat_tests)

higher : (a b x : ℕ) → a ≤ b → ordering_index (nat_cmp a x) ≤ ordering_index (nat_cmp b x)
higher a b x le = grind (arith, nat_tests)

found_at : (rows : List Row) (i x : ℕ) → i < length rows → ((d : Row) → By x (get_or rows i d) ≡ Equal) → number_at rows i ≡ Some x
found_at [] i x l h = absurd (omega (arith, l))
found_at (r ∷ rows) i x l h = at_place (r ∷ rows) i r l ∙ ap Some (equal_is (get_or (r ∷ rows) i r).id x (h r))

pub halved : (rows : List Row) (x : ℕ) (r : Result ℕ ℕ) → IsBinarySearchResult (By x) rows r → MatchResult r (λ i. i < length rows) (λ i. i ≤ length rows) → AreRisingNumbers rows
    → MatchResult r (λ i. number_at rows i ≡ Some x) (λ i. has_row rows x ≡ false)
halved rows x (Ok i) h bound up = found_at rows i x bound h
halved rows x (Err i) h bound up =
    let parted = h (λ a b d le lt. higher (get_or rows a d).id (get_or rows b d).id x (not_below a b d le lt)) in
    no_row rows x (λ k d l. ⊎_elim (λ b. less_is (get_or rows k d).id x (parted.0 k d (omega arith) b)) (λ a. greater_is (get_or rows k d).id x (parted.1 k d a l)) (order k i))
  where
    not_below : (a b : ℕ) (d : Row) → a ≤ b → b < length rows → (get_or rows a d).id ≤ (get_or rows b d).id
    not_below a b d le lt = ⊎_elim
        (λ l. let u = up a b (get_or rows a d).id (get_or rows b d).id l (at_place rows a d (omega (arith, l, lt))) (at_place rows b d lt) in omega (arith, u))
        (λ l. let e : a ≡ b = omega (arith, le, l) in omega (arith, ap (λ k. (get_or rows k d).id) e))
        (order a b)

pub found_ok : (rows : List Row) (x : ℕ) (r : Result ℕ ℕ) (o : Option ℕ) → o ≡ result_ok r → MatchResult r (λ i. number_at rows i ≡ Some x) (λ i. has_row rows x ≡ false) → IfSome o (λ i. number_at rows i ≡ Some x)
found_ok rows x (Ok i) o e all = subst (λ (p : Option ℕ). IfSome p (λ i. number_at rows i ≡ Some x)) (sym e) all
found_ok rows x (Err i) o e all = subst (λ (p : Option ℕ). IfSome p (λ i. number_at rows i ≡ Some x)) (sym e) tt

pub none_ok : (rows : List Row) (x : ℕ) (r : Result ℕ ℕ) (o : Option ℕ) → o ≡ result_ok r → MatchResult r (λ i. number_at rows i ≡ Some x) (λ i. has_row rows x ≡ false) → o ≡ None → has_row rows x ≡ false
none_ok rows x (Ok i) o e all none = absurd (cc)
none_ok rows x (Err i) o e all none = all
