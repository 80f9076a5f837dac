-- One more item of a list.
use Rattle.std.proofs.Common.{◌≡◌, ℕ, zero, suc, ◌+◌, ◌<◌, ◌≤◌, List, [], ◌∷◌, length, get_or, drop, refl, sym, ap, ◌∙◌, arith, add-one}

next : {A : Type 0} (xs : List A) (i : ℕ) (x : A) → i < length xs → x ≡ get_or xs i x → drop i xs ≡ x ∷ drop (suc i) xs
next [] i x h is = absurd (omega arith)
next (y ∷ xs) zero x h is = ap (λ z. z ∷ xs) (sym is)
next (y ∷ xs) (suc i) x h is = next xs i x (omega arith) is

pub next_item : {A : Type 0} (xs : List A) (i : ℕ) (x : A) → i < length xs → x ≡ get_or xs i x → drop i xs ≡ x ∷ drop (i + 1) xs
next_item xs i x h is = next xs i x h is ∙ ap (λ n. x ∷ drop n xs) (sym (add-one i))

pub at_place : {A : Type 0} (xs : List A) (i : ℕ) (d : A) → i < length xs → drop i xs ≡ get_or xs i d ∷ drop (suc i) xs
at_place [] i d h = absurd (omega arith)
at_place (y ∷ xs) zero d h = refl
at_place (y ∷ xs) (suc i) d h = at_place xs i d (omega arith)

pub next_at : {A : Type 0} (xs : List A) (i : ℕ) (d : A) → i < length xs → drop i xs ≡ get_or xs i d ∷ drop (i + 1) xs
next_at xs i d h = at_place xs i d h ∙ ap (λ n. get_or xs i d ∷ drop n xs) (sym (add-one i))

pub none_behind : {A : Type 0} (xs : List A) (i : ℕ) → length xs ≤ i → drop i xs ≡ []
none_behind [] zero h = refl
none_behind [] (suc i) h = refl
none_behind (x ∷ xs) zero h = absurd (omega arith)
none_behind (x ∷ xs) (suc i) h = none_behind xs i (omega arith)
