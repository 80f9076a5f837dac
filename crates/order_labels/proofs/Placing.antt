-- The order after a slot is put in or taken out.
use Rattle.std.proofs.Common.{◌≡◌, ◌≢◌, ◌⊎◌, inl, inr, ℕ, zero, suc, ◌+◌, ◌<◌, ◌≤◌, List, [], ◌∷◌, ◌++◌, length, None, length-append, append-nil, refl, sym, ap, ◌∙◌, subst, arith}
use Rattle.std.proofs.lemmas.Bool.{cases_eq}
use Rattle.slab.specs.Slab.{Slab, get, ContainsKey}
use Rattle.order_labels.specs.declared.links.Link.{Link}
use Rattle.order_labels.specs.Lists.{IsIn}
use Rattle.order_labels.specs.Chain.{link_at, link_or, label_of, prev_of, next_of, walk, slots_of, IsChain, IsOrder, IsPlaced, Inserts, Skips, Relabels, limit_of, top}
use Rattle.order_labels.specs.Labels.{Places, Takes, Begins}
use Rattle.order_labels.proofs.Lists.{parted, in_either}
use Rattle.order_labels.proofs.Chains.{walk_len, walked, split, greater, not_above, last_in}
use Rattle.order_labels.proofs.Inserting.{inserted, pushed}
use Rattle.order_labels.proofs.Removing.{removed, next_high}
use Rattle.order_labels.proofs.Positions.{spot, sides, some_label, end, prev_placed, limit_head, limit_other, spot_in}
use Rattle.order_labels.proofs.Spreading.{slots_same}
use Rattle.order_labels.proofs.Writes.{labelled_there}

abbrev Ch : (ℕ → Link) → List ℕ → Type 0
Ch links xs = IsChain (next_of links) (prev_of links) (label_of links) 0 xs 0

pub slots_len : (links : ℕ → Link) (count : ℕ) → length (slots_of links count) ≡ count
unfolding slots_of
slots_len links count = walk_len (next_of links) count 0

slots_are : (links : ℕ → Link) (n : ℕ) (xs : List ℕ) → Ch links xs → length xs ≡ n → slots_of links n ≡ xs
unfolding slots_of
slots_are links n xs c e = subst (λ m. walk (next_of links) m 0 ≡ xs) e (walked (next_of links) (prev_of links) (label_of links) 0 0 xs c)

pub limit_top : (links : ℕ → Link) (count : ℕ) → IsOrder links count → (x : ℕ) → limit_of links x ≤ top
limit_top links count order x = elim (cases_eq x 0) [
  | inl e ↦ omega (arith, limit_head links x e)
  | inr n ↦ omega (arith, limit_other links x n, order.under x)
]

pub slot_label : (links : ℕ → Link) (count : ℕ) → IsOrder links count → (x : ℕ) → IsIn x (slots_of links count) → 0 < label_of links x
slot_label links count order x i = omega (arith, order.head, greater (next_of links) (prev_of links) (label_of links) 0 0 x (slots_of links count) order.chain i)

pub slot_not_head : (links : ℕ → Link) (count : ℕ) → IsOrder links count → (x : ℕ) → IsIn x (slots_of links count) → x ≢ 0
slot_not_head links count order x i e = omega (arith, slot_label links count order x i, order.head, ap (label_of links) e)

pub none_label : (s : Slab Link) (x : ℕ) → get s x ≡ None → label_of (link_at s) x ≡ 0
none_label s x e = ap (λ o. (link_or o).label) e

pub spot_there : (s : Slab Link) (count : ℕ) → IsOrder (link_at s) count → ContainsKey s 0 → (i : ℕ) → i ≤ count → ContainsKey s (spot (link_at s) i)
spot_there s count order head zero l = head
spot_there s count order head (suc i) l = labelled_there s (spot (link_at s) (suc i)) (some_label (link_at s) count order (suc i) (omega arith) l)

pub prev_there : (s : Slab Link) (count at : ℕ) → IsOrder (link_at s) count → ContainsKey s 0 → IsPlaced (link_at s) count at → ContainsKey s (prev_of (link_at s) at)
prev_there s count at order head p = subst (ContainsKey s) (sym (prev_placed (link_at s) count order at p)) (spot_there s count order head p.place p.within)

pub at_there : (s : Slab Link) (count at : ℕ) → IsOrder (link_at s) count → ContainsKey s 0 → IsPlaced (link_at s) count at → ContainsKey s at
at_there s count at order head p = elim (sides (suc p.place) count) [
  | inl l ↦ subst (ContainsKey s) (sym p.here) (spot_there s count order head (suc p.place) l)
  | inr l ↦ let e : suc p.place ≡ suc count = omega (arith, l, p.within) in
      subst (ContainsKey s) (sym (p.here ∙ (ap (spot (link_at s)) e ∙ end (link_at s) count order))) head
]

pub placed_slot : (links : ℕ → Link) (count at : ℕ) → IsOrder links count → IsPlaced links count at → at ≢ 0 → IsIn at (slots_of links count)
unfolding slots_of
placed_slot links count at order p n = elim (sides (suc p.place) count) [
  | inl l ↦ subst (λ x. IsIn x (walk (next_of links) count 0)) (sym p.here) (spot_in (next_of links) 0 count p.place (omega (arith, l)))
  | inr l ↦ let e : suc p.place ≡ suc count = omega (arith, l, p.within) in absurd (n (p.here ∙ (ap (spot links) e ∙ end links count order)))
]

-- ---- in

module _ (old new : ℕ → Link) (count x at l id : ℕ) (order : IsOrder old count) (placed : IsPlaced old count at) (put : Inserts old new x at l id)
    (low : label_of old (prev_of old at) < l) (high : l < limit_of old at) (none : label_of old x ≡ 0) (not_zero : x ≢ 0) where
  absent : ¬ IsIn x (slots_of old count)
  absent i = omega (arith, none, slot_label old count order x i)

  under_new : (y : ℕ) → label_of new y < top
  under_new y = elim (cases_eq y x) [
    | inl e ↦ omega (arith, ap (label_of new) e, put.labelled, high, limit_top old count order at)
    | inr n ↦ omega (arith, put.labels y n, order.under y)
  ]

  placed_by : (us vs : List ℕ) → slots_of old count ≡ us ++ vs → Ch new (us ++ x ∷ vs) → Begins at vs → Places old new count x at id
  placed_by us vs was c b =
      let size : length (us ++ x ∷ vs) ≡ count + 1 = omega (arith, length-append us (x ∷ vs), length-append us vs, ap length was, slots_len old count) in
      let is = slots_are new (count + 1) (us ++ x ∷ vs) c size in
      record {
        order = record { head = put.labels 0 (λ e. not_zero (sym e)) ∙ order.head; under = under_new; chain = subst (Ch new) (sym is) c };
        us = us;
        vs = vs;
        was = was;
        is = is;
        begins = b;
        fresh = λ i. absent (subst (IsIn x) (sym was) i);
        named = put.named;
        names = put.names;
      }

  pub puts : Places old new count x at id
  puts = elim (cases_eq at 0) [
    | inl e ↦ placed_by (slots_of old count) [] (sym (append-nil (slots_of old count)))
        (pushed old new x l id (subst (λ a. Inserts old new x a l id) e put) (omega (arith, low, ap (λ a. label_of old (prev_of old a)) e)) (slots_of old count) order.chain (λ z. not_zero (sym z)) absent)
        (inl (e, refl))
    | inr n ↦
        let (us, ws, was) = parted at (slots_of old count) (placed_slot old count at order placed n) in
        placed_by us (at ∷ ws) was
        (inserted old new x at l id put low us ws (subst (Ch old) was order.chain) (omega (arith, high, limit_other old at n)) (λ z. not_zero (sym z)) (λ z. n (sym z))
        (λ i. absent (subst (IsIn x) (sym was) i)))
        (inr (ws, refl))
  ]

-- the same after the labels were spread
pub puts_after : (old mid new : ℕ → Link) (count x at id : ℕ) → Relabels old mid count → Places mid new count x at id → Places old new count x at id
puts_after old mid new count x at id r p = record {
  order = p.order;
  us = p.us;
  vs = p.vs;
  was = sym (slots_same old mid count r) ∙ p.was;
  is = p.is;
  begins = p.begins;
  fresh = p.fresh;
  named = p.named;
  names = λ y n. p.names y n ∙ r.names y;
}

-- ---- out

module _ (links : ℕ → Link) (count at : ℕ) (order : IsOrder links (count + 1)) (i : IsIn at (slots_of links (count + 1))) where
  pub parts : (us : List ℕ) × (vs : List ℕ) × (slots_of links (count + 1) ≡ us ++ at ∷ vs) × IsChain (next_of links) (prev_of links) (label_of links) 0 us at
      × (label_of links (prev_of links at) < label_of links at) × IsChain (next_of links) (prev_of links) (label_of links) at vs 0
  parts =
      let (us, vs, was) = parted at (slots_of links (count + 1)) i in
      let p = split (next_of links) (prev_of links) (label_of links) 0 0 at us vs (subst (Ch links) was order.chain) in
      (us, vs, was, p.0, p.1, p.2)

  pub high_next : (next_of links at ≡ 0) ⊎ (label_of links at < label_of links (next_of links at))
  high_next = let (us, vs, was, front, low, back) = parts in next_high links at vs back

  pub low_prev : label_of links (prev_of links at) < label_of links at
  low_prev = let (us, vs, was, front, low, back) = parts in low

  pub prev_either : (prev_of links at ≡ 0) ⊎ (0 < label_of links (prev_of links at))
  prev_either =
      let (us, vs, was, front, low, back) = parts in
      elim (last_in (next_of links) (prev_of links) (label_of links) 0 at us front) [
        | inl e ↦ inl e
        | inr j ↦ inr (omega (arith, order.head, greater (next_of links) (prev_of links) (label_of links) 0 at (prev_of links at) us front j))
      ]

  pub next_either : (next_of links at ≡ 0) ⊎ (0 < label_of links (next_of links at))
  next_either = elim high_next [ inl z ↦ inl z | inr h ↦ inr (omega (arith, h)) ]

  pub not_prev : prev_of links at ≢ at
  not_prev e = omega (arith, low_prev, ap (label_of links) e)

  pub not_next : next_of links at ≢ at
  not_next e = elim high_next [
    | inl z ↦ slot_not_head links (count + 1) order at i (sym e ∙ z)
    | inr h ↦ omega (arith, h, ap (label_of links) e)
  ]

  module _ (new : ℕ → Link) (skips : Skips links new at) where
    under_left : (y : ℕ) → label_of new y < top
    under_left y = elim (cases_eq y at) [
      | inl e ↦ omega (arith, ap (label_of new) e, ap (λ k. k.label) skips.gone)
      | inr n ↦ omega (arith, skips.labels y n, order.under y)
    ]

    pub takes : Takes links new count at
    takes =
        let (us, vs, was, front, low, back) = parts in
        let zero_not : 0 ≢ at = λ e. slot_not_head links (count + 1) order at i (sym e) in
        let c = removed links new at skips low (next_high links at vs back) order.head us vs front back (slot_label links (count + 1) order at i) in
        let size : length (us ++ vs) ≡ count = omega (arith, length-append us vs, length-append us (at ∷ vs), ap length was, slots_len links (count + 1)) in
        let is = slots_are new count (us ++ vs) c size in
        record {
          order = record { head = skips.labels 0 zero_not ∙ order.head; under = under_left; chain = subst (Ch new) (sym is) c };
          us = us;
          vs = vs;
          was = was;
          is = is;
          fresh = λ j. elim (in_either at us vs j) [
            | inl k ↦ omega (arith, low, not_above (next_of links) (prev_of links) (label_of links) 0 at at us front k)
            | inr k ↦ omega (arith, greater (next_of links) (prev_of links) (label_of links) at 0 at vs back k)
          ];
          names = skips.names;
        }

pub key_there : (s : Slab Link) (x : ℕ) → ContainsKey s 0 → (x ≡ 0) ⊎ (0 < label_of (link_at s) x) → ContainsKey s x
key_there s x head (inl e) = subst (ContainsKey s) (sym e) head
key_there s x head (inr l) = labelled_there s x l
