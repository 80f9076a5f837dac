-- The list of ids by its slots.
use Rattle.std.proofs.Common.{◌≡◌, ◌≢◌, inl, inr, ℕ, zero, suc, ◌+◌, ◌-◌, ◌<◌, ◌==◌, List, [], ◌∷◌, ◌++◌, map, length, slice_get, Option, Some, None, nat_eq, eq-eqb, ne_eqb, append-nil, refl, sym, ap, ap₂, ◌∙◌, subst, arith}
use Rattle.std.specs.Prelude.{if◌then◌else◌, IsSome, nat_lt, cond}
use Rattle.std.specs.declared.cmp.Ordering.TheVariants.{Less, Equal, Greater}
use Rattle.std.specs.Ordering.{nat_cmp}
use Rattle.std.specs.HashMap.{HashMap, get as get_slot}
use Rattle.std.proofs.lemmas.Bool.{cases_eq}
use Rattle.std.proofs.lemmas.Bool.Decides.{nat_tests}
use Rattle.std.proofs.lemmas.Option.{same_Some}
use Rattle.std.proofs.lemmas.List.{length-map, map-append}
use Rattle.order_labels.specs.declared.links.Link.{Link}
use Rattle.order_labels.specs.declared.links.Slot.{Slot}
use Rattle.order_labels.specs.Lists.{IsIn, IsApart, PutsBefore, TakesOut, IsFollowed, IsPreceded, last_of}
use Rattle.order_labels.specs.Chain.{label_of, prev_of, next_of, id_of, slots_of, IsChain, IsOrder}
use Rattle.order_labels.specs.Labels.{Finds, Places, Takes, ids_of, id_at}
use Rattle.order_labels.proofs.Lists.{got_in, in_front, in_back, in_grown, in_more, in_middle, mapped_in, unmapped_in, map_same, parted}
use Rattle.order_labels.proofs.Chains.{split, in_order, greater, low_start}
use Rattle.order_labels.proofs.Positions.{ways}
use Rattle.order_labels.proofs.Placing.{slot_not_head}

abbrev pub slot : ℕ → Slot
slot x = record { 0 = x }

module _ {S : Type 0} (m : HashMap ℕ Slot S) (links : ℕ → Link) (count : ℕ) (f : Finds m links (slots_of links count)) where
  pub known : (id : ℕ) → IsIn id (ids_of links count) → (x : ℕ) × IsIn x (slots_of links count) × (id_of links x ≡ id) × (get_slot nat_eq m id ≡ Some (slot x))
  known id i =
      let (x, j, e) = unmapped_in (id_of links) id (slots_of links count) i in
      (x, j, e, ap (get_slot nat_eq m) (sym e) ∙ f.there x j)

  pub known_some : (id : ℕ) → IsIn id (ids_of links count) → IsSome (get_slot nat_eq m id)
  known_some id i =
      let (x, j, e, g) = known id i in
      let P : Option Slot → Type 0 = λ o. IsSome o in
      subst P (sym g) refl

  pub known_by : (o : Option Slot) → (id : ℕ) → get_slot nat_eq m id ≡ o → IsSome o → IsIn id (ids_of links count)
  known_by None id e i = absurd (cc)
  known_by (Some s) id e i = let (j, is) = f.only id s e in subst (λ y. IsIn y (ids_of links count)) is (mapped_in (id_of links) s.0 (slots_of links count) j)

-- the map after an id is put in
module _ {S : Type 0} (m n : HashMap ℕ Slot S) (old new : ℕ → Link) (count x at id : ℕ) (p : Places old new count x at id) (f : Finds m old (slots_of old count))
    (absent : ¬ IsIn id (ids_of old count)) (here : get_slot nat_eq n id ≡ Some (slot x)) (others : (y : ℕ) → y ≢ id → get_slot nat_eq n y ≡ get_slot nat_eq m y) where
  old_slot : (y : ℕ) → IsIn y (p.us ++ p.vs) → IsIn y (slots_of old count)
  old_slot y i = subst (IsIn y) (sym p.was) i

  not_new : (y : ℕ) → IsIn y (p.us ++ p.vs) → y ≢ x
  not_new y i e = p.fresh (subst (λ z. IsIn z (p.us ++ p.vs)) e i)

  other_id : (y : ℕ) → IsIn y (p.us ++ p.vs) → id_of old y ≢ id
  other_id y i e = absent (subst (λ z. IsIn z (ids_of old count)) e (mapped_in (id_of old) y (slots_of old count) (old_slot y i)))

  there_new : (y : ℕ) → IsIn y (p.us ++ x ∷ p.vs) → get_slot nat_eq n (id_of new y) ≡ Some (slot y)
  there_new y i = elim (in_grown x y p.us p.vs i) [
    | inl e ↦ ap (get_slot nat_eq n) (ap (id_of new) e ∙ p.named) ∙ (here ∙ ap (λ z. Some (slot z)) (sym e))
    | inr j ↦ ap (get_slot nat_eq n) (p.names y (not_new y j)) ∙ (others (id_of old y) (other_id y j) ∙ f.there y (old_slot y j))
  ]

  only_new : (k : ℕ) (s : Slot) → get_slot nat_eq n k ≡ Some s → IsIn s.0 (p.us ++ x ∷ p.vs) × (id_of new s.0 ≡ k)
  only_new k s e = elim (cases_eq k id) [
    | inl is ↦
        let same : slot x ≡ s = same_Some (slot x) s (sym here ∙ (sym (ap (get_slot nat_eq n) is) ∙ e)) in
        let num : x ≡ s.0 = ap (λ t. t.0) same in
        (subst (λ y. IsIn y (p.us ++ x ∷ p.vs)) num (in_middle x p.us p.vs), ap (id_of new) (sym num) ∙ (p.named ∙ sym is))
    | inr not ↦
        let (i, is) = f.only k s (sym (others k not) ∙ e) in
        let j = subst (IsIn s.0) p.was i in
        (in_more x s.0 p.us p.vs j, p.names s.0 (not_new s.0 j) ∙ is)
  ]

  pub put_finds : Finds n new (slots_of new (count + 1))
  put_finds = record { there = λ y i. there_new y (subst (IsIn y) p.is i); only = λ k s e. let (i, is) = only_new k s e in (subst (IsIn s.0) (sym p.is) i, is) }

module _ (old new : ℕ → Link) (count x at id : ℕ) (p : Places old new count x at id) where
  ids_was : ids_of old count ≡ map (id_of old) p.us ++ map (id_of old) p.vs
  ids_was = ap (map (id_of old)) p.was ∙ map-append (id_of old) p.us p.vs

  ids_is : ids_of new (count + 1) ≡ map (id_of old) p.us ++ id ∷ map (id_of old) p.vs
  ids_is =
      ap (map (id_of new)) p.is
      ∙ (map-append (id_of new) p.us (x ∷ p.vs)
      ∙ ap₂ (λ ps qs. ps ++ qs) (map_same (id_of new) (id_of old) p.us (λ y i. p.names y (λ e. p.fresh (subst (λ z. IsIn z (p.us ++ p.vs)) e (in_front y p.us p.vs i)))))
      (ap₂ (λ a qs. a ∷ qs) p.named (map_same (id_of new) (id_of old) p.vs (λ y i. p.names y (λ e. p.fresh (subst (λ z. IsIn z (p.us ++ p.vs)) e (in_back y p.us p.vs i)))))))

  pub put_last : at ≡ 0 → IsOrder old count → ids_of new (count + 1) ≡ ids_of old count ++ id ∷ []
  put_last e order = elim p.begins [
    | inl b ↦ ids_is ∙ ap₂ (λ ps qs. ps ++ id ∷ qs) (sym (ids_was ∙ (ap (λ vs. map (id_of old) p.us ++ map (id_of old) vs) b.1 ∙ append-nil (map (id_of old) p.us)))) (ap (map (id_of old)) b.1)
    | inr b ↦ absurd (slot_not_head old count order at (subst (IsIn at) (sym (p.was ∙ ap (λ vs. p.us ++ vs) b.1)) (in_middle at p.us b.0)) e)
  ]

  pub put_before : at ≢ 0 → PutsBefore id (id_of old at) (ids_of old count) (ids_of new (count + 1))
  put_before n = elim p.begins [
    | inl b ↦ absurd (n b.0)
    | inr b ↦ (
      map (id_of old) p.us,
      map (id_of old) b.0,
      ids_was ∙ ap (λ vs. map (id_of old) p.us ++ map (id_of old) vs) b.1,
      ids_is ∙ ap (λ vs. map (id_of old) p.us ++ id ∷ map (id_of old) vs) b.1,
    )
  ]

-- the map after an id is taken out
module _ {S : Type 0} (m n : HashMap ℕ Slot S) (old new : ℕ → Link) (count x : ℕ) (t : Takes old new count x) (f : Finds m old (slots_of old (count + 1)))
    (none : get_slot nat_eq n (id_of old x) ≡ None) (others : (y : ℕ) → y ≢ id_of old x → get_slot nat_eq n y ≡ get_slot nat_eq m y) where
  left_slot : (y : ℕ) → IsIn y (t.us ++ t.vs) → IsIn y (slots_of old (count + 1))
  left_slot y i = subst (IsIn y) (sym t.was) (in_more x y t.us t.vs i)

  not_gone : (y : ℕ) → IsIn y (t.us ++ t.vs) → y ≢ x
  not_gone y i e = t.fresh (subst (λ z. IsIn z (t.us ++ t.vs)) e i)

  x_in : IsIn x (slots_of old (count + 1))
  x_in = subst (IsIn x) (sym t.was) (in_middle x t.us t.vs)

  differs_id : (y : ℕ) → IsIn y (t.us ++ t.vs) → id_of old y ≢ id_of old x
  differs_id y i e =
      not_gone y i (ap (λ s. s.0) (same_Some (slot y) (slot x) (sym (f.there y (left_slot y i)) ∙ (ap (get_slot nat_eq m) e ∙ f.there x x_in))))

  only_left : (k : ℕ) (s : Slot) → get_slot nat_eq n k ≡ Some s → IsIn s.0 (t.us ++ t.vs) × (id_of new s.0 ≡ k)
  only_left k s e = elim (cases_eq k (id_of old x)) [
    | inl is ↦ let bad : None ≡ Some s = sym none ∙ (sym (ap (get_slot nat_eq n) is) ∙ e) in absurd (cc)
    | inr not ↦
        let (i, is) = f.only k s (sym (others k not) ∙ e) in
        elim (in_grown x s.0 t.us t.vs (subst (IsIn s.0) t.was i)) [
          | inl z ↦ absurd (not (sym is ∙ ap (id_of old) z))
          | inr j ↦ (j, t.names s.0 (not_gone s.0 j) ∙ is)
        ]
  ]

  pub take_finds : Finds n new (slots_of new count)
  take_finds = record {
    there = λ y i.
        let j = subst (IsIn y) t.is i in
        ap (get_slot nat_eq n) (t.names y (not_gone y j)) ∙ (others (id_of old y) (differs_id y j) ∙ f.there y (left_slot y j));
    only = λ k s e. let (i, is) = only_left k s e in (subst (IsIn s.0) (sym t.is) i, is);
  }

pub take_ids : (old new : ℕ → Link) (count x : ℕ) → Takes old new count x → TakesOut (id_of old x) (ids_of old (count + 1)) (ids_of new count)
take_ids old new count x t = (
  map (id_of old) t.us,
  map (id_of old) t.vs,
  ap (map (id_of old)) t.was ∙ map-append (id_of old) t.us (x ∷ t.vs),
  ap (map (id_of new)) t.is
      ∙ (map_same (id_of new) (id_of old) (t.us ++ t.vs) (λ y i. t.names y (λ e. t.fresh (subst (λ z. IsIn z (t.us ++ t.vs)) e i)))
      ∙ map-append (id_of old) t.us t.vs),
)

-- the map with other room
pub finds_same : {S : Type 0} (m n : HashMap ℕ Slot S) (links : ℕ → Link) (xs : List ℕ) → ((q : ℕ) → get_slot nat_eq n q ≡ get_slot nat_eq m q) → Finds m links xs → Finds n links xs
finds_same m n links xs h f = record { there = λ x i. h (id_of links x) ∙ f.there x i; only = λ id s e. f.only id s (sym (h id) ∙ e) }

-- ---- places

got_mapped : {A B : Type 0} (f : A → B) (xs : List A) (i : ℕ) (y : B) → slice_get (map f xs) i ≡ Some y → (x : A) × (slice_get xs i ≡ Some x) × (f x ≡ y)
got_mapped f [] i y e = absurd (cc)
got_mapped f (x ∷ xs) zero y e = (x, refl, same_Some (f x) y e)
got_mapped f (x ∷ xs) (suc i) y e = got_mapped f xs i y e

pub got_slot : {S : Type 0} (m : HashMap ℕ Slot S) (links : ℕ → Link) (count : ℕ) (f : Finds m links (slots_of links count)) (id i : ℕ) (s : Slot)
    → slice_get (ids_of links count) i ≡ Some id → get_slot nat_eq m id ≡ Some s → slice_get (slots_of links count) i ≡ Some s.0
got_slot m links count f id i s e g =
    let (x, at, is) = got_mapped (id_of links) (slots_of links count) i id e in
    let same : slot x ≡ s = same_Some (slot x) s (sym (f.there x (got_in (slots_of links count) i x at)) ∙ (ap (get_slot nat_eq m) is ∙ g)) in
    at ∙ ap (λ t. Some t.0) same

lt_ways : (i j m n : ℕ) → (i < j → m < n) → (j < i → n < m) → (i ≡ j → m ≡ n) → nat_lt m n ≡ nat_lt i j
lt_ways i j m n f g h = elim (ways i j) [
  | inl l ↦ let k = f l in grind (arith, nat_tests)
  | inr r ↦ elim r [ inl l ↦ let k = g l in grind (arith, nat_tests) | inr e ↦ let k = h e in grind (arith, nat_tests) ]
]

eq_ways : (i j m n : ℕ) → (i < j → m < n) → (j < i → n < m) → (i ≡ j → m ≡ n) → (m == n) ≡ (i == j)
eq_ways i j m n f g h = elim (ways i j) [
  | inl l ↦ let k = f l in grind (arith, nat_tests)
  | inr r ↦ elim r [ inl l ↦ let k = g l in grind (arith, nat_tests) | inr e ↦ let k = h e in grind (arith, nat_tests) ]
]

module _ (links : ℕ → Link) (count : ℕ) (order : IsOrder links count) (x y i j : ℕ) (at : slice_get (slots_of links count) i ≡ Some x) (bt : slice_get (slots_of links count) j ≡ Some y) where
  less : i < j → label_of links x < label_of links y
  less = in_order (next_of links) (prev_of links) (label_of links) 0 0 x y i j (slots_of links count) order.chain at bt

  more : j < i → label_of links y < label_of links x
  more = in_order (next_of links) (prev_of links) (label_of links) 0 0 y x j i (slots_of links count) order.chain bt at

  same : i ≡ j → label_of links x ≡ label_of links y
  same e = ap (label_of links) (same_Some x y (sym at ∙ (ap (slice_get (slots_of links count)) e ∙ bt)))

  pub lt_decided : nat_lt (label_of links x) (label_of links y) ≡ nat_lt i j
  lt_decided = lt_ways i j (label_of links x) (label_of links y) less more same

  pub cmp_decided : nat_cmp (label_of links x) (label_of links y) ≡ nat_cmp i j
  cmp_decided = ap₂ (λ p q. cond p Less (cond q Equal Greater)) lt_decided (eq_ways i j (label_of links x) (label_of links y) less more same)

-- ---- neighbours

at_head : (links : ℕ → Link) (x : ℕ) → x ≡ 0 → id_at links x ≡ None
at_head links x e = ap (λ b. if b then None else Some (id_of links x)) (eq-eqb x 0 e)

at_slot : (links : ℕ → Link) (x : ℕ) → x ≢ 0 → id_at links x ≡ Some (id_of links x)
at_slot links x n = ap (λ b. if b then None else Some (id_of links x)) (ne_eqb x 0 n)

pub next_id : (links : ℕ → Link) (a : ℕ) (xs : List ℕ) → IsChain (next_of links) (prev_of links) (label_of links) a xs 0 → ((x : ℕ) → IsIn x xs → x ≢ 0)
    → id_at links (next_of links a) ≡ slice_get (map (id_of links) xs) 0
next_id links a [] c n = at_head links (next_of links a) c.0
next_id links a (x ∷ xs) c n = ap (id_at links) c.0 ∙ at_slot links x (n x (inl refl))

last_got : (links : ℕ → Link) (a b x : ℕ) (xs : List ℕ) → IsChain (next_of links) (prev_of links) (label_of links) a (x ∷ xs) b
    → slice_get (map (id_of links) (x ∷ xs)) (length xs) ≡ Some (id_of links (prev_of links b))
last_got links a b x [] c = ap (λ y. Some (id_of links y)) (sym c.3.1)
last_got links a b x (y ∷ ys) c = last_got links x b y ys c.3

last_is : (links : ℕ → Link) (x : ℕ) (xs : List ℕ) → length (map (id_of links) (x ∷ xs)) - 1 ≡ length xs
last_is links x xs = omega (arith, length-map (x ∷ xs) (id_of links))

pub prev_id : (links : ℕ → Link) (b : ℕ) (xs : List ℕ) → label_of links 0 ≡ 0 → IsChain (next_of links) (prev_of links) (label_of links) 0 xs b
    → id_at links (prev_of links b) ≡ last_of (map (id_of links) xs)
prev_id links b [] z c = at_head links (prev_of links b) c.1
prev_id links b (x ∷ xs) z c =
    at_slot links (prev_of links b) (λ e. omega (arith, z, c.2, low_start (next_of links) (prev_of links) (label_of links) x b xs c.3, ap (label_of links) e))
    ∙ (sym (last_got links 0 b x xs c) ∙ ap (slice_get (map (id_of links) (x ∷ xs))) (sym (last_is links x xs)))

module _ (links : ℕ → Link) (count : ℕ) (order : IsOrder links count) (ids : List ℕ) (ids_are : ids_of links count ≡ ids) where
  pub first_is : id_at links (next_of links 0) ≡ slice_get ids 0
  first_is = next_id links 0 (slots_of links count) order.chain (slot_not_head links count order) ∙ ap (λ xs. slice_get xs 0) ids_are

  pub last_id : id_at links (prev_of links 0) ≡ last_of ids
  last_id = prev_id links 0 (slots_of links count) order.head order.chain ∙ ap last_of ids_are

  pub followed : (x : ℕ) → IsIn x (slots_of links count) → IsFollowed (id_of links x) ids (id_at links (next_of links x))
  followed x i =
      let (us, vs, was) = parted x (slots_of links count) i in
      let p = split (next_of links) (prev_of links) (label_of links) 0 0 x us vs (subst (λ xs. IsChain (next_of links) (prev_of links) (label_of links) 0 xs 0) was order.chain) in (
        map (id_of links) us,
        map (id_of links) vs,
        sym ids_are ∙ (ap (map (id_of links)) was ∙ map-append (id_of links) us (x ∷ vs)),
        next_id links x vs p.2 (λ y j. slot_not_head links count order y (subst (IsIn y) (sym was) (in_back y us (x ∷ vs) (inr j)))),
      )

  pub preceded : (x : ℕ) → IsIn x (slots_of links count) → IsPreceded (id_of links x) ids (id_at links (prev_of links x))
  preceded x i =
      let (us, vs, was) = parted x (slots_of links count) i in
      let p = split (next_of links) (prev_of links) (label_of links) 0 0 x us vs (subst (λ xs. IsChain (next_of links) (prev_of links) (label_of links) 0 xs 0) was order.chain) in (
        map (id_of links) us,
        map (id_of links) vs,
        sym ids_are ∙ (ap (map (id_of links)) was ∙ map-append (id_of links) us (x ∷ vs)),
        prev_id links x us order.head p.0,
      )

pub apart_ids : {S : Type 0} (m : HashMap ℕ Slot S) (links : ℕ → Link) (a : ℕ) (xs : List ℕ) → IsChain (next_of links) (prev_of links) (label_of links) a xs 0
    → ((x : ℕ) → IsIn x xs → get_slot nat_eq m (id_of links x) ≡ Some (slot x)) → IsApart (map (id_of links) xs)
apart_ids m links a [] c f = tt
apart_ids m links a (x ∷ xs) c f = (
  λ i.
      let (y, j, e) = unmapped_in (id_of links) (id_of links x) xs i in
      let is : y ≡ x = ap (λ s. s.0) (same_Some (slot y) (slot x) (sym (f y (inr j)) ∙ (ap (get_slot nat_eq m) e ∙ f x (inl refl)))) in
      omega (arith, greater (next_of links) (prev_of links) (label_of links) x 0 y xs c.3 j, ap (label_of links) is),
  apart_ids m links x xs c.3 (λ y i. f y (inr i)),
)
