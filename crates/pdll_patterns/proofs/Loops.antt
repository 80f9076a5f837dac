-- One more item of a list.
use Rattle.std.proofs.Common.{◌≡◌, ℕ, zero, suc, ◌+◌, ◌<◌, ◌≤◌, List, [], ◌∷◌, ◌++◌, map, length, get_or, drop, refl, sym, ap, ◌∙◌, arith, add-one}

next : {A : Type 0} (xs : List A) (i : ℕ) (x : A) → i < length xs → x ≡ get_or xs i x → drop i xs ≡ x ∷ drop (suc i) xs
next [] i x h is = absurd (omega arith)
next (y ∷ xs) zero x h is = ap (λ z. z ∷ xs) (sym is)
next (y ∷ xs) (suc i) x h is = next xs i x (omega arith) is

pub next_item : {A : Type 0} (xs : List A) (i : ℕ) (x : A) → i < length xs → x ≡ get_or xs i x → drop i xs ≡ x ∷ drop (i + 1) xs
next_item xs i x h is = next xs i x h is ∙ ap (λ n. x ∷ drop n xs) (sym (add-one i))

next_there : {A : Type 0} (xs : List A) (i : ℕ) (d : A) → i < length xs → drop i xs ≡ get_or xs i d ∷ drop (suc i) xs
next_there [] i d h = absurd (omega arith)
next_there (x ∷ xs) zero d h = refl
next_there (x ∷ xs) (suc i) d h = next_there xs i d (omega arith)

-- the same of what isn't owned
pub next_at : {A : Type 0} (xs : List A) (i : ℕ) (d : A) → i < length xs → drop i xs ≡ get_or xs i d ∷ drop (i + 1) xs
next_at xs i d h = next_there xs i d h ∙ ap (λ n. get_or xs i d ∷ drop n xs) (sym (add-one i))

pub none_behind : {A : Type 0} (xs : List A) (i : ℕ) → length xs ≤ i → drop i xs ≡ []
none_behind [] zero h = refl
none_behind [] (suc i) h = refl
none_behind (x ∷ xs) zero h = absurd (omega arith)
none_behind (x ∷ xs) (suc i) h = none_behind xs i (omega arith)

append_one : {B : Type 0} (xs : List B) (y : B) (ys : List B) → xs ++ y ∷ ys ≡ (xs ++ y ∷ []) ++ ys
append_one [] y ys = refl
append_one (x ∷ xs) y ys = ap (λ zs. x ∷ zs) (append_one xs y ys)

pub append_none : {B : Type 0} (xs : List B) → xs ++ [] ≡ xs
append_none [] = refl
append_none (x ∷ xs) = ap (λ ys. x ∷ ys) (append_none xs)

-- so much is mapped
abbrev pub Mapped : {A B : Type 0} → (A → B) → List A → ℕ → List B → Type 0
Mapped f xs i found = map f xs ≡ found ++ map f (drop i xs)

pub mapped_one : {A B : Type 0} (f : A → B) (xs : List A) (i : ℕ) (d : A) (found more : List B) → i < length xs
    → more ≡ found ++ f (get_or xs i d) ∷ [] → Mapped f xs i found → Mapped f xs (i + 1) more
mapped_one f xs i d found more h e m =
    m ∙ (ap (λ ys. found ++ map f ys) (next_at xs i d h)
    ∙ (append_one found (f (get_or xs i d)) (map f (drop (i + 1) xs)) ∙ ap (λ ys. ys ++ map f (drop (i + 1) xs)) (sym e)))

pub mapped_all : {A B : Type 0} (f : A → B) (xs : List A) (i : ℕ) (found : List B) → length xs ≤ i → Mapped f xs i found → found ≡ map f xs
mapped_all f xs i found h m = sym (m ∙ (ap (λ ys. found ++ map f ys) (none_behind xs i h) ∙ append_none found))

pub map_twice : {A B C : Type 0} (f : A → B) (g : B → C) (xs : List A) → map g (map f xs) ≡ map (λ x. g (f x)) xs
map_twice f g [] = refl
map_twice f g (x ∷ xs) = ap (λ ys. g (f x) ∷ ys) (map_twice f g xs)
