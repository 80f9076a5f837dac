-- Slots by their places behind the head.
use Rattle.std.proofs.Common.{◌≡◌, ◌≢◌, ◌⊎◌, inl, inr, ℕ, zero, suc, ◌+◌, ◌<◌, ◌≤◌, ◌∷◌, eq-eqb, ne_eqb, refl, sym, ap, ap₂, ◌∙◌, arith}
use Rattle.std.specs.Prelude.{if◌then◌else◌}
use Rattle.std.proofs.lemmas.Bool.{cases_eq}
use Rattle.order_labels.specs.declared.links.Link.{Link}
use Rattle.order_labels.specs.Lists.{IsIn}
use Rattle.order_labels.specs.Chain.{label_of, prev_of, next_of, walk, go, IsChain, IsOrder, IsPlaced, slots_of, limit_of, top}

abbrev pub Ways : ℕ → ℕ → Type 0
Ways i j = (i < j) ⊎ ((j < i) ⊎ (i ≡ j))

pub ways : (i j : ℕ) → Ways i j
ways zero zero = inr (inr refl)
ways zero (suc j) = inl (omega arith)
ways (suc i) zero = inr (inl (omega arith))
ways (suc i) (suc j) = elim (ways i j) [
  | inl l ↦ inl (omega (arith, l))
  | inr r ↦ elim r [ inl l ↦ inr (inl (omega (arith, l))) | inr e ↦ inr (inr (ap suc e)) ]
]

-- up to there, or past it
pub sides : (i n : ℕ) → (i ≤ n) ⊎ (n < i)
sides i n = elim (ways i n) [ inl l ↦ inl (omega (arith, l)) | inr r ↦ elim r [ inl l ↦ inr l | inr e ↦ inl (omega (arith, e)) ] ]

pub positive : (n : ℕ) → n ≢ 0 → 0 < n
positive zero n = absurd (n refl)
positive (suc k) n = omega arith

module _ (next : ℕ → ℕ) where
  pub go_next : (a n : ℕ) → go next a (suc n) ≡ next (go next a n)
  go_next a zero = refl
  go_next a (suc n) = go_next (next a) n

  pub go_add : (a i j : ℕ) → go next (go next a i) j ≡ go next a (i + j)
  go_add a zero j = let e : j ≡ 0 + j = omega arith in ap (go next a) e
  go_add a (suc i) j = let e : suc (i + j) ≡ suc i + j = omega arith in go_add (next a) i j ∙ ap (go next a) e

  pub spot_in : (a c i : ℕ) → i < c → IsIn (go next a (suc i)) (walk next c a)
  spot_in a zero i l = absurd (omega arith)
  spot_in a (suc c) zero l = inl refl
  spot_in a (suc c) (suc i) l = inr (spot_in (next a) c i (omega (arith, l)))

  pub in_spot : (a c x : ℕ) → IsIn x (walk next c a) → (i : ℕ) × (i < c) × (x ≡ go next a (suc i))
  in_spot a zero x i = absurd i
  in_spot a (suc c) x (inl e) = (0, omega arith, e)
  in_spot a (suc c) x (inr i) = let (j, l, e) = in_spot (next a) c x i in (suc j, omega (arith, l), e)

  -- whether a slot is among so many behind another one
  pub found : (x a n : ℕ) → ((i : ℕ) × (1 ≤ i) × (i ≤ n) × (x ≡ go next a i)) ⊎ ((i : ℕ) → 1 ≤ i → i ≤ n → x ≢ go next a i)
  found x a zero = inr (λ i l m. absurd (omega (arith, l, m)))
  found x a (suc n) = elim (cases_eq x (go next a (suc n))) [
    | inl e ↦ inl (suc n, omega arith, omega arith, e)
    | inr not ↦ elim (found x a n) [
      | inl f ↦ inl (f.0, f.1, omega (arith, f.2), f.3)
      | inr none ↦ inr (λ i l m e. elim (sides i n) [
        | inl b ↦ none i l b e
        | inr b ↦ let same : i ≡ suc n = omega (arith, b, m) in not (e ∙ ap (go next a) same)
      ])
    ]
  ]

  module _ (next' : ℕ → ℕ) (nexts : (y : ℕ) → next' y ≡ next y) where
    pub same_go : (a n : ℕ) → go next' a n ≡ go next a n
    same_go a zero = refl
    same_go a (suc n) = ap (λ b. go next' b n) (nexts a) ∙ same_go (next a) n

    pub same_walk : (c a : ℕ) → walk next' c a ≡ walk next c a
    same_walk zero a = refl
    same_walk (suc c) a = ap₂ (λ y ys. y ∷ ys) (nexts a) (ap (walk next' c) (nexts a) ∙ same_walk c (next a))

module _ (next prev label : ℕ → ℕ) where
  not_less : (a b c j : ℕ) → IsChain next prev label a (walk next c a) b → j ≤ c → label a ≤ label (go next a j)
  not_less a b c zero h l = omega arith
  not_less a b zero (suc j) h l = absurd (omega arith)
  not_less a b (suc c) (suc j) h l = omega (arith, h.2, not_less (next a) b c j h.3 (omega (arith, l)))

  -- labels rise with places
  pub rises : (a b c i j : ℕ) → IsChain next prev label a (walk next c a) b → i < j → j ≤ c → label (go next a i) < label (go next a j)
  rises a b c zero zero h l m = absurd (omega arith)
  rises a b zero zero (suc j) h l m = absurd (omega arith)
  rises a b (suc c) zero (suc j) h l m = omega (arith, h.2, not_less (next a) b c j h.3 (omega (arith, m)))
  rises a b c (suc i) zero h l m = absurd (omega arith)
  rises a b zero (suc i) (suc j) h l m = absurd (omega arith)
  rises a b (suc c) (suc i) (suc j) h l m = rises (next a) b c i j h.3 (omega (arith, l)) (omega (arith, m))

  pub steps_back : (a b c i : ℕ) → IsChain next prev label a (walk next c a) b → i ≤ c → prev (go next a (suc i)) ≡ go next a i
  steps_back a b zero zero h l = ap prev h.0 ∙ h.1
  steps_back a b zero (suc i) h l = absurd (omega arith)
  steps_back a b (suc c) zero h l = h.1
  steps_back a b (suc c) (suc i) h l = steps_back (next a) b c i h.3 (omega (arith, l))

  pub comes_to : (a b c : ℕ) → IsChain next prev label a (walk next c a) b → go next a (suc c) ≡ b
  comes_to a b zero h = h.0
  comes_to a b (suc c) h = comes_to (next a) b c h.3

  -- a chain from what holds at each place
  pub chain_by : (a b c : ℕ) → ((i : ℕ) → i ≤ c → prev (go next a (suc i)) ≡ go next a i)
      → ((i : ℕ) → i < c → label (go next a i) < label (go next a (suc i))) → go next a (suc c) ≡ b → IsChain next prev label a (walk next c a) b
  chain_by a b zero p l e = (e, ap prev (sym e) ∙ p 0 (omega arith))
  chain_by a b (suc c) p l e = (
    refl,
    p 0 (omega arith),
    l 0 (omega arith),
    chain_by (next a) b c (λ i h. p (suc i) (omega (arith, h))) (λ i h. l (suc i) (omega (arith, h))) e,
  )

pub limit_head : (links : ℕ → Link) (x : ℕ) → x ≡ 0 → limit_of links x ≡ top
limit_head links x e = ap (λ b. if b then top else label_of links x) (eq-eqb x 0 e)

pub limit_other : (links : ℕ → Link) (x : ℕ) → x ≢ 0 → limit_of links x ≡ label_of links x
limit_other links x n = ap (λ b. if b then top else label_of links x) (ne_eqb x 0 n)

abbrev pub spot : (ℕ → Link) → ℕ → ℕ
spot links i = go (next_of links) 0 i

module _ (links : ℕ → Link) (count : ℕ) (order : IsOrder links count) where
  pub chain_of : IsChain (next_of links) (prev_of links) (label_of links) 0 (walk (next_of links) count 0) 0
  unfolding slots_of
  chain_of = order.chain

  pub rise : (i j : ℕ) → i < j → j ≤ count → label_of links (spot links i) < label_of links (spot links j)
  rise i j l m = rises (next_of links) (prev_of links) (label_of links) 0 0 count i j chain_of l m

  pub back : (i : ℕ) → i ≤ count → prev_of links (spot links (suc i)) ≡ spot links i
  back i l = steps_back (next_of links) (prev_of links) (label_of links) 0 0 count i chain_of l

  pub end : spot links (suc count) ≡ 0
  end = comes_to (next_of links) (prev_of links) (label_of links) 0 0 count chain_of

  pub some_label : (i : ℕ) → 1 ≤ i → i ≤ count → 0 < label_of links (spot links i)
  some_label i l m = omega (arith, order.head, rise 0 i l m)

  pub not_head : (i : ℕ) → 1 ≤ i → i ≤ count → spot links i ≢ 0
  not_head i l m e = omega (arith, some_label i l m, order.head, ap (label_of links) e)

  -- the gap behind a place
  pub gap_behind : (i : ℕ) → i ≤ count → label_of links (spot links i) < limit_of links (spot links (suc i))
  gap_behind i l = elim (sides (suc i) count) [
    | inl m ↦ omega (arith, rise i (suc i) (omega arith) m, limit_other links (spot links (suc i)) (not_head (suc i) (omega arith) m))
    | inr m ↦ let e : suc i ≡ suc count = omega (arith, l, m) in
        omega (arith, order.under (spot links i), limit_head links (spot links (suc i)) (ap (spot links) e ∙ end))
  ]

  pub prev_placed : (x : ℕ) (p : IsPlaced links count x) → prev_of links x ≡ spot links p.place
  prev_placed x p = ap (prev_of links) p.here ∙ back p.place p.within

  pub gap_there : (x : ℕ) → IsPlaced links count x → label_of links (prev_of links x) < limit_of links x
  gap_there x p = omega (arith, ap (label_of links) (prev_placed x p), gap_behind p.place p.within, ap (limit_of links) p.here)

  pub placed_head : IsPlaced links count 0
  placed_head = record { place = count; within = omega arith; here = sym end }

  pub placed_in : (x : ℕ) → IsIn x (slots_of links count) → IsPlaced links count x
  unfolding slots_of
  placed_in x i = let (p, l, e) = in_spot (next_of links) 0 count x i in record { place = p; within = omega (arith, l); here = e }
