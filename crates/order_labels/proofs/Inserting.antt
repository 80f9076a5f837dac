-- A chain with one slot more.
use Rattle.std.proofs.Common.{◌≡◌, ◌≢◌, inl, inr, ℕ, ◌<◌, ◌≤◌, List, [], ◌∷◌, ◌++◌, append_assoc, sym, ap, ◌∙◌, subst, arith}
use Rattle.order_labels.specs.declared.links.Link.{Link}
use Rattle.order_labels.specs.Lists.{IsIn}
use Rattle.order_labels.specs.Chain.{label_of, prev_of, next_of, IsChain, Inserts}
use Rattle.order_labels.proofs.Lists.{in_front, in_back}
use Rattle.order_labels.proofs.Chains.{split, joined, low_start, not_above, apart}

module _ (old new : ℕ → Link) (x at l id : ℕ) (put : Inserts old new x at l id) (low : label_of old (prev_of old at) < l) where
  abbrev Old : ℕ → List ℕ → ℕ → Type 0
  Old = IsChain (next_of old) (prev_of old) (label_of old)

  abbrev New : ℕ → List ℕ → ℕ → Type 0
  New = IsChain (next_of new) (prev_of new) (label_of new)

  -- what is in front, with the new slot behind
  pub grown : (a : ℕ) (xs : List ℕ) → Old a xs at → ¬ IsIn at xs → a ≢ x → ¬ IsIn x xs → New a (xs ++ x ∷ []) at
  grown a [] c o n m =
      (subst (λ z. next_of new z ≡ x) c.1 put.into, put.back_out ∙ c.1, omega (arith, put.labelled, put.labels a n, ap (label_of old) c.1, low), (put.out, put.back_into))
  grown a (y ∷ xs) c o n m =
      let above = low_start (next_of old) (prev_of old) (label_of old) y at xs c.3 in (
        put.nexts a (λ e. omega (arith, above, c.2, ap (label_of old) e)) n ∙ c.0,
        put.prevs y (λ e. o (inl (sym e))) (λ e. m (inl (sym e))) ∙ c.1,
        omega (arith, put.labels a n, put.labels y (λ e. m (inl (sym e))), c.2),
        grown y xs c.3 (λ i. o (inr i)) (λ e. m (inl (sym e))) (λ i. m (inr i)),
      )

  -- what is behind
  pub kept : (a b : ℕ) (xs : List ℕ) → Old a xs b → label_of old (prev_of old at) < label_of old at → label_of old at ≤ label_of old a
      → a ≢ x → ¬ IsIn x xs → b ≢ at → b ≢ x → New a xs b
  kept a b [] c k h n m p q = (put.nexts a (λ e. omega (arith, h, k, ap (label_of old) e)) n ∙ c.0, put.prevs b p q ∙ c.1)
  kept a b (y ∷ xs) c k h n m p q = (
    put.nexts a (λ e. omega (arith, h, k, ap (label_of old) e)) n ∙ c.0,
    put.prevs y (λ e. omega (arith, h, c.2, ap (label_of old) e)) (λ e. m (inl (sym e))) ∙ c.1,
    omega (arith, put.labels a n, put.labels y (λ e. m (inl (sym e))), c.2),
    kept y b xs c.3 k (omega (arith, h, c.2)) (λ e. m (inl (sym e))) (λ i. m (inr i)) p q,
  )

  pub inserted : (us vs : List ℕ) → Old 0 (us ++ at ∷ vs) 0 → l < label_of old at → 0 ≢ x → 0 ≢ at → ¬ IsIn x (us ++ at ∷ vs) → New 0 (us ++ x ∷ at ∷ vs) 0
  inserted us vs c high n z m =
      let parts = split (next_of old) (prev_of old) (label_of old) 0 0 at us vs c in
      let fresh : at ≢ x = λ e. m (in_back x us (at ∷ vs) (inl (sym e))) in
      let front =
      grown 0 us parts.0 (λ i. omega (arith, not_above (next_of old) (prev_of old) (label_of old) 0 at at us parts.0 i, parts.1)) n
      (λ i. m (in_front x us (at ∷ vs) i)) in
      let back = kept at 0 vs parts.2 parts.1 (omega arith) fresh (λ i. m (in_back x us (at ∷ vs) (inr i))) z n in
      subst (λ ys. New 0 ys 0) (append_assoc us (x ∷ []) (at ∷ vs))
      (joined (next_of new) (prev_of new) (label_of new) 0 0 at (us ++ x ∷ []) vs front
      (omega (arith, ap (label_of new) put.back_into, put.labelled, put.labels at fresh, high)) back)

-- the same last
pub pushed : (old new : ℕ → Link) (x l id : ℕ) → Inserts old new x 0 l id → label_of old (prev_of old 0) < l → (us : List ℕ)
    → IsChain (next_of old) (prev_of old) (label_of old) 0 us 0 → 0 ≢ x → ¬ IsIn x us → IsChain (next_of new) (prev_of new) (label_of new) 0 (us ++ x ∷ []) 0
pushed old new x l id put low us c n m = grown old new x 0 l id put low 0 us c (apart (next_of old) (prev_of old) (label_of old) 0 0 us c) n m
