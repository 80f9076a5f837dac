-- One more item of a list.
use Rattle.std.proofs.Common.{◌≡◌, ℕ, zero, suc, ◌+◌, ◌<◌, ◌≤◌, List, [], ◌∷◌, ◌++◌, map, length, get_or, drop, refl, sym, ap, ◌∙◌, arith, add-one}

next : {A : Type 0} (xs : List A) (i : ℕ) (x : A) → i < length xs → x ≡ get_or xs i x → drop i xs ≡ x ∷ drop (suc i) xs
next [] i x h is = absurd (omega arith)
next (y ∷ xs) zero x h is = ap (λ z. z ∷ xs) (sym is)
next (y ∷ xs) (suc i) x h is = next xs i x (omega arith) is

pub next_item : {A : Type 0} (xs : List A) (i : ℕ) (x : A) → i < length xs → x ≡ get_or xs i x → drop i xs ≡ x ∷ drop (i + 1) xs
next_item xs i x h is = next xs i x h is ∙ ap (λ n. x ∷ drop n xs) (sym (add-one i))

pub none_behind : {A : Type 0} (xs : List A) (i : ℕ) → length xs ≤ i → drop i xs ≡ []
none_behind [] zero h = refl
none_behind [] (suc i) h = refl
none_behind (x ∷ xs) zero h = absurd (omega arith)
none_behind (x ∷ xs) (suc i) h = none_behind xs i (omega arith)

next_at : (xs : List ℕ) (i : ℕ) → i < length xs → drop i xs ≡ get_or xs i 0 ∷ drop (suc i) xs
next_at [] i h = absurd (omega arith)
next_at (x ∷ xs) zero h = refl
next_at (x ∷ xs) (suc i) h = next_at xs i (omega arith)

pub next_number : (xs : List ℕ) (i : ℕ) → i < length xs → drop i xs ≡ get_or xs i 0 ∷ drop (i + 1) xs
next_number xs i h = next_at xs i h ∙ ap (λ n. get_or xs i 0 ∷ drop n xs) (sym (add-one i))

mapped_next : {A B : Type 0} (f : A → B) (found : List B) (x : A) (xs : List A) → found ++ map f (x ∷ xs) ≡ (found ++ f x ∷ []) ++ map f xs
mapped_next f [] x xs = refl
mapped_next f (y ∷ ys) x xs = ap (λ zs. y ∷ zs) (mapped_next f ys x xs)

nothing_more : {A : Type 0} (xs : List A) → xs ++ [] ≡ xs
nothing_more [] = refl
nothing_more (x ∷ xs) = ap (λ ys. x ∷ ys) (nothing_more xs)

-- so much of a list is mapped
abbrev pub Mapped : {A B : Type 0} → (A → B) → List A → ℕ → List B → Type 0
Mapped f all i found = map f all ≡ found ++ map f (drop i all)

pub map_next : {A B : Type 0} (f : A → B) (all : List A) (i : ℕ) (x : A) (found more : List B) → drop i all ≡ x ∷ drop (i + 1) all → more ≡ found ++ f x ∷ []
    → Mapped f all i found → Mapped f all (i + 1) more
map_next f all i x found more e m h = h ∙ (ap (λ xs. found ++ map f xs) e ∙ (mapped_next f found x (drop (i + 1) all) ∙ ap (λ ys. ys ++ map f (drop (i + 1) all)) (sym m)))

pub map_all : {A B : Type 0} (f : A → B) (all : List A) (i : ℕ) (found : List B) → length all ≤ i → Mapped f all i found → found ≡ map f all
map_all f all i found h m = sym (m ∙ (ap (λ xs. found ++ map f xs) (none_behind all i h) ∙ nothing_more found))

pub none_mapped : {A B : Type 0} (f : A → B) (all : List A) (found : List B) → found ≡ [] → Mapped f all 0 found
none_mapped f all found e = ap (λ xs. xs ++ map f all) (sym e)

next_or : {A : Type 0} (xs : List A) (i : ℕ) (d : A) → i < length xs → drop i xs ≡ get_or xs i d ∷ drop (suc i) xs
next_or [] i d h = absurd (omega arith)
next_or (x ∷ xs) zero d h = refl
next_or (x ∷ xs) (suc i) d h = next_or xs i d (omega arith)

pub next_of : {A : Type 0} (xs : List A) (i : ℕ) (d : A) → i < length xs → drop i xs ≡ get_or xs i d ∷ drop (i + 1) xs
next_of xs i d h = next_or xs i d h ∙ ap (λ n. get_or xs i d ∷ drop n xs) (sym (add-one i))
