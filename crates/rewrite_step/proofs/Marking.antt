-- Numbers that are in use, as marks at their places.
use Rattle.std.proofs.Common.{◌≡◌, ℕ, zero, suc, ◌+◌, ◌<◌, Bool, true, false, cond, List, [], ◌∷◌, ◌++◌, refl, sym, ap, ◌∙◌, arith, add-one}
use Rattle.std.specs.Prelude.{filter}
use Rattle.std.specs.List.{range_with_len}
use Rattle.std.proofs.lemmas.List.{append-nil}
use Rattle.std.proofs.lemmas.List.Elements.{filter-append}
use Rattle.rewrite_step.specs.Marking.{is_marked}

-- one more number
pub more : (a n j : ℕ) → a + n ≡ j → range_with_len a (n + 1) ≡ range_with_len a n ++ j ∷ []
more a n j is = ap (range_with_len a) (add-one n) ∙ one a n j is where
  one : (a n j : ℕ) → a + n ≡ j → range_with_len a (suc n) ≡ range_with_len a n ++ j ∷ []
  one a zero j is = let same : a ≡ j = omega (arith, is) in ap (λ k. k ∷ []) same
  one a (suc n) j is = ap (λ l. a ∷ l) (one (a + 1) n j (omega (arith, is)))

-- tests that agree on the numbers of a range
pub agree : (p q : ℕ → Bool) (a n : ℕ) → ((k : ℕ) → k < a + n → p k ≡ q k) → filter p (range_with_len a n) ≡ filter q (range_with_len a n)
agree p q a zero same = refl
agree p q a (suc n) same =
    let rest : filter p (range_with_len (a + 1) n) ≡ filter q (range_with_len (a + 1) n) = agree p q (a + 1) n (λ k h. same k (omega (arith, h))) in
    λ i. cond (same a (omega arith) i) (a ∷ rest i) (rest i)

kept_more : (p : ℕ → Bool) (found new : List ℕ) (id : ℕ) → found ≡ filter p (range_with_len 0 id) → new ≡ found ++ cond (p id) (id ∷ []) [] → new ≡ filter p (range_with_len 0 (id + 1))
kept_more p found new id are put =
    put ∙ (ap (λ l. l ++ cond (p id) (id ∷ []) []) are ∙ sym (ap (filter p) (more 0 id id (omega arith)) ∙ filter-append p (range_with_len 0 id) (id ∷ [])))

pub one_passes : (p : ℕ → Bool) (found new : List ℕ) (id : ℕ) → found ≡ filter p (range_with_len 0 id) → p id ≡ true → new ≡ found ++ id ∷ [] → new ≡ filter p (range_with_len 0 (id + 1))
one_passes p found new id are passes put = kept_more p found new id are (put ∙ ap (λ b. found ++ cond b (id ∷ []) []) (sym passes))

pub one_fails : (p : ℕ → Bool) (found new : List ℕ) (id : ℕ) → found ≡ filter p (range_with_len 0 id) → p id ≡ false → new ≡ found → new ≡ filter p (range_with_len 0 (id + 1))
one_fails p found new id are fails put = kept_more p found new id are (put ∙ (sym (append-nil found) ∙ ap (λ b. found ++ cond b (id ∷ []) []) (sym fails)))

pub still_unmarked : (marks : List Bool) → ((k : ℕ) → is_marked marks k ≡ false) → (k : ℕ) → is_marked (marks ++ false ∷ []) k ≡ false
still_unmarked [] none zero = refl
still_unmarked [] none (suc k) = refl
still_unmarked (m ∷ marks) none zero = none 0
still_unmarked (m ∷ marks) none (suc k) = still_unmarked marks (λ j. none (suc j)) k
