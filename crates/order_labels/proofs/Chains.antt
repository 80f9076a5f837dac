-- Chains of slots.
use Rattle.std.proofs.Common.{◌≡◌, ◌⊎◌, inl, inr, ℕ, zero, suc, ◌<◌, ◌≤◌, List, [], ◌∷◌, ◌++◌, length, slice_get, Some, refl, ap, ap₂, ◌∙◌, arith}
use Rattle.std.proofs.lemmas.Option.{same_Some}
use Rattle.order_labels.specs.Lists.{IsIn}
use Rattle.order_labels.specs.Chain.{walk, IsChain}
use Rattle.order_labels.proofs.Lists.{got_in}

pub walk_len : (next : ℕ → ℕ) (n a : ℕ) → length (walk next n a) ≡ n
walk_len next zero a = refl
walk_len next (suc n) a = ap suc (walk_len next n (next a))

module _ (next prev label : ℕ → ℕ) where
  abbrev Ch : ℕ → List ℕ → ℕ → Type 0
  Ch = IsChain next prev label

  -- labels behind a slot are greater
  pub greater : (a b x : ℕ) (xs : List ℕ) → Ch a xs b → IsIn x xs → label a < label x
  greater a b x [] c i = absurd i
  greater a b x (y ∷ ys) c (inl e) = omega (arith, c.2, ap label e)
  greater a b x (y ∷ ys) c (inr i) = omega (arith, c.2, greater y b x ys c.3 i)

  pub apart : (a b : ℕ) (xs : List ℕ) → Ch a xs b → ¬ IsIn a xs
  apart a b xs c i = omega (arith, greater a b a xs c i)

  -- what is before the end
  pub last_in : (a b : ℕ) (xs : List ℕ) → Ch a xs b → (prev b ≡ a) ⊎ IsIn (prev b) xs
  last_in a b [] c = inl c.1
  last_in a b (x ∷ xs) c = inr (elim (last_in x b xs c.3) [ inl e ↦ inl e | inr i ↦ inr i ])

  -- a chain falls in two at each of its slots
  pub split : (a b y : ℕ) (xs ys : List ℕ) → Ch a (xs ++ y ∷ ys) b → Ch a xs y × (label (prev y) < label y) × Ch y ys b
  split a b y [] ys c = ((c.0, c.1), omega (arith, c.2, ap label c.1), c.3)
  split a b y (x ∷ xs) ys c = let more = split x b y xs ys c.3 in ((c.0, c.1, c.2, more.0), more.1, more.2)

  pub joined : (a b y : ℕ) (xs ys : List ℕ) → Ch a xs y → label (prev y) < label y → Ch y ys b → Ch a (xs ++ y ∷ ys) b
  joined a b y [] ys c l d = (c.0, c.1, omega (arith, l, ap label c.1), d)
  joined a b y (x ∷ xs) ys c l d = (c.0, c.1, c.2, joined x b y xs ys c.3 l d)

  -- the list is what the walk finds
  pub walked : (a b : ℕ) (xs : List ℕ) → Ch a xs b → walk next (length xs) a ≡ xs
  walked a b [] c = refl
  walked a b (x ∷ xs) c = ap₂ (λ y ys. y ∷ ys) c.0 (ap (walk next (length xs)) c.0 ∙ walked x b xs c.3)

  -- labels do not fall towards the end
  pub low_start : (a b : ℕ) (xs : List ℕ) → Ch a xs b → label a ≤ label (prev b)
  low_start a b [] c = omega (arith, ap label c.1)
  low_start a b (x ∷ xs) c = omega (arith, c.2, low_start x b xs c.3)

  pub not_above : (a b y : ℕ) (xs : List ℕ) → Ch a xs b → IsIn y xs → label y ≤ label (prev b)
  not_above a b y [] c i = absurd i
  not_above a b y (x ∷ xs) c (inl e) = omega (arith, ap label e, low_start x b xs c.3)
  not_above a b y (x ∷ xs) c (inr i) = not_above x b y xs c.3 i

  -- places rise with labels
  pub in_order : (a b x y i j : ℕ) (xs : List ℕ) → Ch a xs b → slice_get xs i ≡ Some x → slice_get xs j ≡ Some y → i < j → label x < label y
  in_order a b x y i j [] c p q l = absurd (cc)
  in_order a b x y i zero (z ∷ xs) c p q l = absurd (omega arith)
  in_order a b x y zero (suc j) (z ∷ xs) c p q l = omega (arith, ap label (same_Some z x p), greater z b y xs c.3 (got_in xs j y q))
  in_order a b x y (suc i) (suc j) (z ∷ xs) c p q l = in_order z b x y i j xs c.3 p q (omega arith)

  -- the first of a chain is behind its start
  pub first_next : (a b : ℕ) (xs ys : List ℕ) (y : ℕ) → xs ≡ y ∷ ys → Ch a xs b → next a ≡ y
  first_next a b [] ys y e c = absurd (cc)
  first_next a b (x ∷ xs) ys y e c = c.0 ∙ cc
