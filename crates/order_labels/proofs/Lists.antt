-- Members of lists.
use Rattle.std.proofs.Common.{◌≡◌, ◌⊎◌, inl, inr, ℕ, zero, suc, List, [], ◌∷◌, ◌++◌, map, slice_get, Some, refl, sym, ap, ap₂}
use Rattle.std.proofs.lemmas.Option.{same_Some}
use Rattle.order_labels.specs.Lists.{IsIn}

module _ {A : Type 0} where
  pub got_in : (xs : List A) (i : ℕ) (x : A) → slice_get xs i ≡ Some x → IsIn x xs
  got_in [] i x p = absurd (cc)
  got_in (y ∷ xs) zero x p = inl (sym (same_Some y x p))
  got_in (y ∷ xs) (suc i) x p = inr (got_in xs i x p)

  pub in_at : (x : A) (xs : List A) → IsIn x xs → (i : ℕ) × (slice_get xs i ≡ Some x)
  in_at x [] i = absurd i
  in_at x (y ∷ ys) (inl e) = (0, ap Some (sym e))
  in_at x (y ∷ ys) (inr i) = let (j, g) = in_at x ys i in (suc j, g)

  pub in_front : (x : A) (us vs : List A) → IsIn x us → IsIn x (us ++ vs)
  in_front x [] vs i = absurd i
  in_front x (a ∷ us) vs (inl e) = inl e
  in_front x (a ∷ us) vs (inr i) = inr (in_front x us vs i)

  pub in_back : (x : A) (us vs : List A) → IsIn x vs → IsIn x (us ++ vs)
  in_back x [] vs i = i
  in_back x (a ∷ us) vs i = inr (in_back x us vs i)

  pub in_either : (x : A) (us vs : List A) → IsIn x (us ++ vs) → IsIn x us ⊎ IsIn x vs
  in_either x [] vs i = inr i
  in_either x (a ∷ us) vs (inl e) = inl (inl e)
  in_either x (a ∷ us) vs (inr i) = elim (in_either x us vs i) [ inl j ↦ inl (inr j) | inr j ↦ inr j ]

  -- a list falls in two at each of its members
  pub parted : (x : A) (xs : List A) → IsIn x xs → (us : List A) × (vs : List A) × (xs ≡ us ++ x ∷ vs)
  parted x [] i = absurd i
  parted x (y ∷ ys) (inl e) = ([], ys, ap (λ z. z ∷ ys) (sym e))
  parted x (y ∷ ys) (inr i) = let (us, vs, is) = parted x ys i in (y ∷ us, vs, ap (λ z. y ∷ z) is)

  -- what is in a list with one member more
  pub in_grown : (x y : A) (us vs : List A) → IsIn y (us ++ x ∷ vs) → (y ≡ x) ⊎ IsIn y (us ++ vs)
  in_grown x y us vs i = elim (in_either y us (x ∷ vs) i) [
    | inl j ↦ inr (in_front y us vs j)
    | inr j ↦ elim j [ inl e ↦ inl e | inr k ↦ inr (in_back y us vs k) ]
  ]

  pub in_more : (x y : A) (us vs : List A) → IsIn y (us ++ vs) → IsIn y (us ++ x ∷ vs)
  in_more x y us vs i = elim (in_either y us vs i) [ inl j ↦ in_front y us (x ∷ vs) j | inr j ↦ in_back y us (x ∷ vs) (inr j) ]

  pub in_middle : (x : A) (us vs : List A) → IsIn x (us ++ x ∷ vs)
  in_middle x us vs = in_back x us (x ∷ vs) (inl refl)

module _ {A B : Type 0} where
  pub mapped_in : (f : A → B) (x : A) (xs : List A) → IsIn x xs → IsIn (f x) (map f xs)
  mapped_in f x [] i = absurd i
  mapped_in f x (y ∷ ys) (inl e) = inl (ap f e)
  mapped_in f x (y ∷ ys) (inr i) = inr (mapped_in f x ys i)

  pub unmapped_in : (f : A → B) (y : B) (xs : List A) → IsIn y (map f xs) → (x : A) × IsIn x xs × (f x ≡ y)
  unmapped_in f y [] i = absurd i
  unmapped_in f y (x ∷ xs) (inl e) = (x, inl refl, sym e)
  unmapped_in f y (x ∷ xs) (inr i) = let (z, j, e) = unmapped_in f y xs i in (z, inr j, e)

  pub map_same : (f g : A → B) (xs : List A) → ((x : A) → IsIn x xs → f x ≡ g x) → map f xs ≡ map g xs
  map_same f g [] h = refl
  map_same f g (x ∷ xs) h = ap₂ (λ y ys. y ∷ ys) (h x (inl refl)) (map_same f g xs (λ y i. h y (inr i)))
