-- A chain without one of its slots.
use Rattle.std.proofs.Common.{◌≡◌, ◌≢◌, ◌⊎◌, inl, inr, ℕ, ◌<◌, List, [], ◌∷◌, ◌++◌, append-nil, sym, ap, ◌∙◌, subst, arith}
use Rattle.order_labels.specs.declared.links.Link.{Link}
use Rattle.order_labels.specs.Chain.{label_of, prev_of, next_of, IsChain, Skips}
use Rattle.order_labels.proofs.Chains.{joined, low_start}

module _ (old new : ℕ → Link) (at : ℕ) (skips : Skips old new at) (low : label_of old (prev_of old at) < label_of old at)
    (high : (next_of old at ≡ 0) ⊎ (label_of old at < label_of old (next_of old at))) (head : label_of old 0 ≡ 0) where
  abbrev Old : ℕ → List ℕ → ℕ → Type 0
  Old = IsChain (next_of old) (prev_of old) (label_of old)

  abbrev New : ℕ → List ℕ → ℕ → Type 0
  New = IsChain (next_of new) (prev_of new) (label_of new)

  not_next : (y : ℕ) → 0 < label_of old y → label_of old y < label_of old at → y ≢ next_of old at
  not_next y p l e = elim high [ inl z ↦ omega (arith, p, head, ap (label_of old) (e ∙ z)) | inr h ↦ omega (arith, l, h, ap (label_of old) e) ]

  shrunk : (a : ℕ) (xs : List ℕ) → Old a xs at → New a xs (next_of old at)
  shrunk a [] c = (subst (λ z. next_of new z ≡ next_of old at) c.1 skips.onward, skips.back ∙ c.1)
  shrunk a (y ∷ xs) c =
      let above = low_start (next_of old) (prev_of old) (label_of old) y at xs c.3 in
      let a_not : a ≢ at = λ e. omega (arith, above, c.2, low, ap (label_of old) e) in
      let y_not : y ≢ at = λ e. omega (arith, above, low, ap (label_of old) e) in (
        skips.nexts a (λ e. omega (arith, above, c.2, ap (label_of old) e)) a_not ∙ c.0,
        skips.prevs y (not_next y (omega (arith, c.2)) (omega (arith, above, low))) y_not ∙ c.1,
        omega (arith, skips.labels a a_not, skips.labels y y_not, c.2),
        shrunk y xs c.3,
      )

  -- what is behind is left alone
  behind : (a b : ℕ) (xs : List ℕ) → Old a xs b → label_of old at < label_of old a → ((y : ℕ) → label_of old a < label_of old y → y ≢ next_of old at)
      → b ≢ next_of old at → b ≢ at → New a xs b
  behind a b [] c h n p q =
      (skips.nexts a (λ e. omega (arith, h, low, ap (label_of old) e)) (λ e. omega (arith, h, ap (label_of old) e)) ∙ c.0, skips.prevs b p q ∙ c.1)
  behind a b (y ∷ xs) c h n p q =
      let a_not : a ≢ at = λ e. omega (arith, h, ap (label_of old) e) in
      let y_not : y ≢ at = λ e. omega (arith, h, c.2, ap (label_of old) e) in (
        skips.nexts a (λ e. omega (arith, h, low, ap (label_of old) e)) a_not ∙ c.0,
        skips.prevs y (n y c.2) y_not ∙ c.1,
        omega (arith, skips.labels a a_not, skips.labels y y_not, c.2),
        behind y b xs c.3 (omega (arith, h, c.2)) (λ z l. n z (omega (arith, l, c.2))) p q,
      )

  pub removed : (us vs : List ℕ) → Old 0 us at → Old at vs 0 → 0 < label_of old at → New 0 (us ++ vs) 0
  removed us [] c d p = subst (λ ys. New 0 ys 0) (sym (append-nil us)) (subst (New 0 us) d.0 (shrunk 0 us c))
  removed us (y ∷ vs) c d p =
      let next : next_of old at ≡ y = d.0 in
      let y_not : y ≢ at = λ e. omega (arith, d.2, ap (label_of old) e) in
      let prev_not : prev_of old at ≢ at = λ e. omega (arith, low, ap (label_of old) e) in
      let prev : prev_of new y ≡ prev_of old at = subst (λ z. prev_of new z ≡ prev_of old at) next skips.back in
      joined (next_of new) (prev_of new) (label_of new) 0 0 y us vs (subst (New 0 us) next (shrunk 0 us c))
      (omega (arith, ap (label_of new) prev, skips.labels (prev_of old at) prev_not, skips.labels y y_not, low, d.2))
      (behind y 0 vs d.3 (omega (arith, d.2)) (λ z l e. omega (arith, l, ap (label_of old) (e ∙ next)))
      (λ e. omega (arith, d.2, head, ap (label_of old) (e ∙ next))) (λ e. omega (arith, p, head, ap (label_of old) e)))

pub next_high : (links : ℕ → Link) (at : ℕ) (vs : List ℕ) → IsChain (next_of links) (prev_of links) (label_of links) at vs 0
    → (next_of links at ≡ 0) ⊎ (label_of links at < label_of links (next_of links at))
next_high links at [] d = inl d.0
next_high links at (y ∷ vs) d = inr (omega (arith, d.2, ap (label_of links) d.0))
