-- Labels that are spread anew.
use Rattle.std.proofs.Common.{◌≡◌, ◌≢◌, inl, inr, ℕ, zero, suc, ◌+◌, ◌-◌, ◌*◌, ◌<◌, ◌≤◌, refl, sym, ap, ◌∙◌, arith}
use Rattle.std.proofs.Math.Nat.{suc-mul, mul-le-mul_right}
use Rattle.std.proofs.lemmas.Bool.{cases_eq}
use Rattle.order_labels.specs.declared.links.Link.{Link}
use Rattle.order_labels.specs.Chain.{label_of, prev_of, next_of, go, slots_of, IsOrder, IsPlaced, IsStretch, Spreads, Relabels, Sets, limit_of, top}
use Rattle.order_labels.proofs.Positions.{spot, go_add, go_next, found, sides, same_go, same_walk, rise, back, end, not_head, chain_by, limit_head, limit_other, some_label}
use Rattle.order_labels.proofs.Writes.{field_kept}

-- ---- the loop

pub spread_none : (old : ℕ → Link) (before base step : ℕ) → Spreads old old before 0 base step
spread_none old before base step = record {
  nexts = λ y. refl;
  prevs = λ y. refl;
  names = λ y. refl;
  labels = λ i l m. absurd (omega (arith, l, m));
  others = λ y n. refl;
}

-- one label more
module _ (old now new : ℕ → Link) (before len base step label x : ℕ) (s : Spreads old now before len base step) (x_is : x ≡ go (next_of old) before (suc len))
    (label_is : label ≡ base + (len + 1) * step) (write : Sets now new x (record (now x) { label = label }))
    (apart : (i : ℕ) → i < suc len → go (next_of old) before i ≢ go (next_of old) before (suc len)) where
  kept : {B : Type 0} (f : Link → B) → f (record (now x) { label = label }) ≡ f (now x) → (y : ℕ) → f (new y) ≡ f (now y)
  kept f e = field_kept f now new x (record (now x) { label = label }) write e

  label_at : (i : ℕ) → 1 ≤ i → i ≤ len + 1 → label_of new (go (next_of old) before i) ≡ base + i * step
  label_at i l m = elim (sides i len) [
    | inl h ↦ ap (λ k. k.label) (write.others (go (next_of old) before i) (λ e. apart i (omega (arith, h)) (e ∙ x_is))) ∙ s.labels i l h
    | inr h ↦
        let e : i ≡ suc len = omega (arith, h, m) in
        let more : len + 1 ≡ i = omega (arith, e) in
        ap (label_of new) (ap (go (next_of old) before) e ∙ sym x_is) ∙ (ap (λ k. k.label) write.here ∙ (label_is ∙ ap (λ n. base + n * step) more))
  ]

  pub spread_more : Spreads old new before (len + 1) base step
  spread_more = record {
    nexts = λ y. kept (λ k. k.next.0) refl y ∙ s.nexts y;
    prevs = λ y. kept (λ k. k.prev.0) refl y ∙ s.prevs y;
    names = λ y. kept (λ k. k.id) refl y ∙ s.names y;
    labels = label_at;
    others = λ y n.
        ap (λ k. k.label) (write.others y (λ e. n (suc len) (omega arith) (omega arith) (e ∙ x_is)))
        ∙ s.others y (λ i l m. n i l (omega (arith, m)));
  }

-- ---- the order after it

module _ (old new : ℕ → Link) (count at : ℕ) (order : IsOrder old count) (before len after base step : ℕ) (s : IsStretch old count at before len after)
    (w : Spreads old new before len base step) (two : 2 ≤ step) (low : label_of old before ≤ base) (high : base + suc len * step ≤ limit_of old after)
    (fits : base + suc len * step ≤ top) where
  place_of : (i : ℕ) → go (next_of old) before i ≡ spot old (s.start + i)
  place_of i = ap (λ b. go (next_of old) b i) s.from ∙ go_add (next_of old) 0 s.start i

  spot_same : (i : ℕ) → spot new i ≡ spot old i
  spot_same i = same_go (next_of old) (next_of new) w.nexts 0 i

  -- labels in front
  in_front : (i : ℕ) → i ≤ s.start → label_of new (spot old i) ≡ label_of old (spot old i)
  in_front i l =
      w.others (spot old i) (λ j m n e. omega (arith, l, m, n, s.within, ap (label_of old) (e ∙ place_of j), rise old count order i (s.start + j) (omega (arith, l, m)) (omega (arith, n, s.within))))

  behind : (i : ℕ) → s.start + len < i → i ≤ count → label_of new (spot old i) ≡ label_of old (spot old i)
  behind i l k =
      w.others (spot old i) (λ j m n e. omega (arith, l, m, n, ap (label_of old) (e ∙ place_of j), rise old count order (s.start + j) i (omega (arith, l, n)) k))

  inside : (j : ℕ) → 1 ≤ j → j ≤ len → label_of new (spot old (s.start + j)) ≡ base + j * step
  inside j l m = sym (ap (label_of new) (place_of j)) ∙ w.labels j l m

  more : (j : ℕ) → suc j * step ≡ j * step + step
  more j = suc-mul j step

  -- from the slot before the stretch on the labels are at most so great
  at_most : (j : ℕ) → j ≤ len → label_of new (spot old (s.start + j)) ≤ base + j * step
  at_most zero l =
      let e : s.start + 0 ≡ s.start = omega arith in
      omega (arith, ap (λ i. label_of new (spot old i)) e, in_front s.start (omega arith), low, ap (label_of old) s.from)
  at_most (suc j) l = omega (arith, inside (suc j) (omega arith) l)

  limit_new : (x : ℕ) → label_of new x ≡ label_of old x → limit_of new x ≡ limit_of old x
  limit_new x e = elim (cases_eq x 0) [ inl z ↦ limit_head new x z ∙ sym (limit_head old x z) | inr n ↦ limit_other new x n ∙ (e ∙ sym (limit_other old x n)) ]

  after_kept : limit_of new after ≡ limit_of old after
  after_kept = elim (sides (suc (s.start + len)) count) [
    | inl m ↦ limit_new after (ap (label_of new) s.to ∙ (behind (suc (s.start + len)) (omega arith) m ∙ sym (ap (label_of old) s.to)))
    | inr m ↦
        let e : suc (s.start + len) ≡ suc count = omega (arith, m, s.within) in
        let z : after ≡ 0 = s.to ∙ (ap (spot old) e ∙ end old count order) in
        limit_head new after z ∙ sym (limit_head old after z)
  ]

  -- the gaps in and beside the stretch
  gap_at : (j : ℕ) → j ≤ len → label_of new (spot old (s.start + j)) + step ≤ limit_of new (spot old (suc (s.start + j)))
  gap_at j l = elim (sides (suc j) len) [
    | inl m ↦
        let e : suc (s.start + j) ≡ s.start + suc j = omega arith in
        let n = not_head old count order (suc (s.start + j)) (omega arith) (omega (arith, m, s.within)) in
        omega (arith, at_most j l, inside (suc j) (omega arith) m, more j, ap (λ i. label_of new (spot old i)) e, limit_other new (spot old (suc (s.start + j))) n)
    | inr m ↦
        let e : j ≡ len = omega (arith, l, m) in
        let is : spot old (suc (s.start + j)) ≡ after = ap (λ i. spot old (suc (s.start + i))) e ∙ sym s.to in
        omega (arith, at_most j l, more j, ap (λ i. suc i * step) e, high, after_kept, ap (limit_of new) is)
  ]

  rise_new : (i : ℕ) → i < count → label_of new (spot old i) < label_of new (spot old (suc i))
  rise_new i l = elim (sides (suc i) s.start) [
    | inl m ↦ omega (arith, in_front i (omega (arith, m)), in_front (suc i) m, rise old count order i (suc i) (omega arith) l)
    | inr m ↦ elim (sides i (s.start + len)) [
      | inl k ↦
          let e : s.start + (i - s.start) ≡ i = omega (arith, m) in
          omega (
            arith,
            gap_at (i - s.start) (omega (arith, k, m)),
            two,
            ap (λ j. label_of new (spot old j)) e,
            ap (λ j. limit_of new (spot old (suc j))) e,
            limit_other new (spot old (suc i)) (not_head old count order (suc i) (omega arith) l),
          )
      | inr k ↦ omega (arith, behind i k (omega (arith, l)), behind (suc i) (omega (arith, k)) l, rise old count order i (suc i) (omega arith) l)
    ]
  ]

  under_new : (x : ℕ) → label_of new x < top
  under_new x = elim (found (next_of old) x before len) [
    | inl f ↦ omega (arith, ap (label_of new) f.3, w.labels f.0 f.1 f.2, mul-le-mul_right {m = f.0} {n = len} step f.2, more len, two, fits)
    | inr none ↦ omega (arith, w.others x none, order.under x)
  ]

  order_new : IsOrder new count
  unfolding slots_of
  order_new = record {
    head = in_front 0 (omega arith) ∙ order.head;
    under = under_new;
    chain = chain_by (next_of new) (prev_of new) (label_of new) 0 0 count
        (λ i l. ap (prev_of new) (spot_same (suc i)) ∙ (w.prevs (spot old (suc i)) ∙ (back old count order i l ∙ sym (spot_same i))))
        (λ i l. omega (arith, rise_new i l, ap (label_of new) (spot_same i), ap (label_of new) (spot_same (suc i))))
        (spot_same (suc count) ∙ end old count order);
  }

  pub relabelled : Relabels old new count
  relabelled = record { nexts = w.nexts; prevs = w.prevs; names = w.names; order = order_new }

  pub gap_made : label_of new (prev_of new at) + 2 ≤ limit_of new at
  gap_made =
      let e : s.start + (s.place - s.start) ≡ s.place = omega (arith, s.low) in
      let is : prev_of new at ≡ spot old s.place = w.prevs at ∙ (ap (prev_of old) s.here ∙ back old count order s.place (omega (arith, s.high, s.within))) in
      omega (
        arith,
        gap_at (s.place - s.start) (omega (arith, s.low, s.high)),
        two,
        ap (λ j. label_of new (spot old j)) e,
        ap (λ j. limit_of new (spot old (suc j))) e,
        ap (label_of new) is,
        ap (limit_of new) s.here,
      )

-- ---- what the loop asks

pub spots_apart : (links : ℕ → Link) (count at : ℕ) (order : IsOrder links count) (before len after : ℕ) (s : IsStretch links count at before len after)
    → (i j : ℕ) → i < j → j ≤ len → go (next_of links) before i ≢ go (next_of links) before j
spots_apart links count at order before len after s i j l m e =
    omega (
      arith,
      rise links count order (s.start + i) (s.start + j) (omega (arith, l)) (omega (arith, m, s.within)),
      ap (label_of links) (sym (ap (λ b. go (next_of links) b i) s.from ∙ go_add (next_of links) 0 s.start i) ∙ (e ∙ (ap (λ b. go (next_of links) b j) s.from ∙ go_add (next_of links) 0 s.start j))),
    )

pub spots_labelled : (links : ℕ → Link) (count at : ℕ) (order : IsOrder links count) (before len after : ℕ) (s : IsStretch links count at before len after)
    → (i : ℕ) → 1 ≤ i → i ≤ len → 0 < label_of links (go (next_of links) before i)
spots_labelled links count at order before len after s i l m =
    omega (
      arith,
      some_label links count order (s.start + i) (omega (arith, l)) (omega (arith, m, s.within)),
      ap (label_of links) (ap (λ b. go (next_of links) b i) s.from ∙ go_add (next_of links) 0 s.start i),
    )

pub relabels_none : (links : ℕ → Link) (count : ℕ) → IsOrder links count → Relabels links links count
relabels_none links count order = record { nexts = λ y. refl; prevs = λ y. refl; names = λ y. refl; order = order }

-- a slot is placed as before
pub placed_same : (old new : ℕ → Link) (count x : ℕ) → Relabels old new count → IsPlaced old count x → IsPlaced new count x
placed_same old new count x r p =
    record { place = p.place; within = p.within; here = p.here ∙ sym (same_go (next_of old) (next_of new) r.nexts 0 (suc p.place)) }

pub slots_same : (old new : ℕ → Link) (count : ℕ) → Relabels old new count → slots_of new count ≡ slots_of old count
unfolding slots_of
slots_same old new count r = same_walk (next_of old) (next_of new) r.nexts count 0

-- ---- a turn of the loop

pub next_step : (old now : ℕ → Link) (before n at : ℕ) → at ≡ go (next_of old) before n → ((y : ℕ) → next_of now y ≡ next_of old y) → (k : Link) → k ≡ now at
    → k.next.0 ≡ go (next_of old) before (suc n)
next_step old now before n at here nexts k is =
    ap (λ l. l.next.0) is ∙ (nexts at ∙ (ap (next_of old) here ∙ sym (go_next (next_of old) before n)))

pub label_step : (base n step label : ℕ) → label ≡ base + n * step → label + step ≡ base + (n + 1) * step
label_step base n step label e =
    let more : suc n ≡ n + 1 = omega arith in
    omega (arith, e, suc-mul n step, ap (λ i. i * step) more)
