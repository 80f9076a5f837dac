-- All uses of a value go to another one.
use Rattle.std.proofs.Common.{◌≡◌, ◌≢◌, inl, inr, ℕ, zero, suc, ◌+◌, ◌<◌, ◌≤◌, List, [], ◌∷◌, ◌++◌, length, append_assoc, append-nil, refl, sym, ap, ap₂, ◌∙◌, subst, arith, length-append}
use Rattle.mlir_tree.specs.declared.value.Val.{Val}
use Rattle.use_lists.specs.declared.nodes.Node.{Node}
use Rattle.use_lists.specs.declared.nodes.Node.TheVariants.{Head}
use Rattle.use_lists.specs.declared.nodes.Link.{Link}
use Rattle.use_lists.specs.Nodes.{Puts, no_link}
use Rattle.use_lists.specs.Chain.{IsIn, IsApart, walk, IsChain}
use Rattle.use_lists.specs.Rings.{next_of, prev_of, owner_of, count_of, IsUse, nodes_of, IsRing, AreRings, Renames, Renaming, Joins}
use Rattle.use_lists.proofs.Chains.{in_front, in_back, in_either, apart_both, last_in, carried, ended}
use Rattle.use_lists.proofs.Rings.{val_cases, node_cases, field_kept, Mine, not_head, settled, counted_nodes, apart_head, one_owner, last_mine, stays}

pub none_renamed : (old : Node → Link) (head : Node) (n : ℕ) (to : Val) → Renaming old old head n 0 head to
none_renamed old head n to = record {
  done = [];
  left = n;
  total = omega arith;
  parts = refl;
  renames = record { nexts = λ y. refl; prevs = λ y. refl; counts = λ y. refl; renamed = λ y i. absurd i; owners = λ y i. refl };
}

one_more : (old now new : Node → Link) (done : List Node) (to : Val) (y : Node) (k : Link) → Renames old now done to → k ≡ now y
    → Puts now new y (record { prev = k.prev; next = k.next; owner = to; count = k.count }) → Renames old new (done ++ y ∷ []) to
one_more old now new done to y k r e p = record {
  nexts = λ z. field_kept (λ q. q.next) now new y _ p (ap (λ q. q.next) e) z ∙ r.nexts z;
  prevs = λ z. field_kept (λ q. q.prev) now new y _ p (ap (λ q. q.prev) e) z ∙ r.prevs z;
  counts = λ z. field_kept (λ q. q.count) now new y _ p (ap (λ q. q.count) e) z ∙ r.counts z;
  renamed = λ z i. elim (node_cases z y) [
    | inl q ↦ ap (owner_of new) q ∙ ap (λ k. k.owner) p.here
    | inr n ↦ ap (λ k. k.owner) (p.others z n) ∙ r.renamed z (elim (in_either z done (y ∷ []) i) [ inl j ↦ j | inr j ↦ absurd (elim j [ inl q ↦ n q | inr b ↦ b ]) ])
  ];
  owners = λ z i. ap (λ k. k.owner) (p.others z (λ q. i (in_back z done (y ∷ []) (inl q)))) ∙ r.owners z (λ j. i (in_front z done (y ∷ []) j));
}

left_more : (i left n : ℕ) → i + left ≡ n → i < n → (m : ℕ) × (left ≡ suc m)
left_more i zero n e l = absurd (omega arith)
left_more i (suc m) n e l = (m, refl)

pub renamed_at : (old now : Node → Link) (head : Node) (n i : ℕ) (at : Node) (to : Val) (k : Link) → Renaming old now head n i at to → i < n → k ≡ now at → IsIn k.next (walk (next_of old) n head)
renamed_at old now head n i at to k r l e =
    let (m, q) = left_more i r.left n r.total l in
    let next : k.next ≡ next_of old at = ap (λ z. z.next) e ∙ r.renames.nexts at in
    subst (IsIn k.next) (sym r.parts) (in_back k.next r.done (walk (next_of old) r.left at) (subst (λ j. IsIn k.next (walk (next_of old) j at)) (sym q) (inl next)))

pub renamed_more : (old now new : Node → Link) (head : Node) (n i : ℕ) (at : Node) (to : Val) (k h : Link) → Renaming old now head n i at to → i < n → k ≡ now at → h ≡ now k.next
    → Puts now new k.next (record { prev = h.prev; next = h.next; owner = to; count = h.count }) → Renaming old new head n (i + 1) k.next to
renamed_more old now new head n i at to k h r l e f p =
    let (m, q) = left_more i r.left n r.total l in
    let next : next_of old at ≡ k.next = sym (ap (λ z. z.next) e ∙ r.renames.nexts at) in
    record {
      done = r.done ++ k.next ∷ [];
      left = m;
      total = omega (arith, r.total, q);
      parts = r.parts ∙ (ap (λ j. r.done ++ walk (next_of old) j at) q
          ∙ (ap (λ z. r.done ++ z ∷ walk (next_of old) m z) next ∙ sym (append_assoc r.done (k.next ∷ []) (walk (next_of old) m k.next))));
      renames = one_more old now new r.done to k.next h r.renames f p;
    }

pub all_renamed : (old now : Node → Link) (head : Node) (n i : ℕ) (at : Node) (to : Val) → Renaming old now head n i at to → n ≤ i → Renames old now (walk (next_of old) n head) to
all_renamed old now head n i at to r l =
    let none : r.left ≡ 0 = omega (arith, r.total, l) in
    subst (λ xs. Renames old now xs to) (sym (r.parts ∙ (ap (λ j. r.done ++ walk (next_of old) j at) none ∙ append-nil r.done))) r.renames

pub joined : (l0 l1 l2 l3 l4 l5 : Node → Link) (from to : Val) (f t e a l : Link) → f ≡ l0 (Head from) → t ≡ l0 (Head to) → e ≡ l1 t.prev → a ≡ l2 f.next → l ≡ l3 f.prev
    → from ≢ to → IsUse f.next → IsUse f.prev → t.prev ≢ f.prev → t.prev ≢ Head from
    → Puts l0 l1 (Head to) (record { prev = f.prev; next = t.next; owner = t.owner; count = t.count + f.count })
    → Puts l1 l2 t.prev (record { prev = e.prev; next = f.next; owner = e.owner; count = e.count })
    → Puts l2 l3 f.next (record { prev = t.prev; next = a.next; owner = a.owner; count = a.count })
    → Puts l3 l4 f.prev (record { prev = l.prev; next = Head to; owner = l.owner; count = l.count })
    → Puts l4 l5 (Head from) (no_link (Head from)) → Joins l0 l5 from to
joined l0 l1 l2 l3 l4 l5 from to f t e a l ef et ee ea el differ uf ul ne nf p1 p2 p3 p4 p5 =
    let fp : f.prev ≡ prev_of l0 (Head from) = ap (λ q. q.prev) ef in
    let fn : f.next ≡ next_of l0 (Head from) = ap (λ q. q.next) ef in
    let tp : t.prev ≡ prev_of l0 (Head to) = ap (λ q. q.prev) et in
    let no_head : (w : Val) (x : Node) → IsUse x → Head w ≢ x = λ w x u q. subst IsUse (sym q) u in
    let apart : Head to ≢ Head from = λ q. differ (cc) in
    let next1 : (y : Node) → next_of l1 y ≡ next_of l0 y = field_kept (λ q. q.next) l0 l1 (Head to) _ p1 (ap (λ q. q.next) et) in
    let owner1 : (y : Node) → owner_of l1 y ≡ owner_of l0 y = field_kept (λ q. q.owner) l0 l1 (Head to) _ p1 (ap (λ q. q.owner) et) in
    let prev2 : (y : Node) → prev_of l2 y ≡ prev_of l1 y = field_kept (λ q. q.prev) l1 l2 t.prev _ p2 (ap (λ q. q.prev) ee) in
    let owner2 : (y : Node) → owner_of l2 y ≡ owner_of l1 y = field_kept (λ q. q.owner) l1 l2 t.prev _ p2 (ap (λ q. q.owner) ee) in
    let count2 : (y : Node) → count_of l2 y ≡ count_of l1 y = field_kept (λ q. q.count) l1 l2 t.prev _ p2 (ap (λ q. q.count) ee) in
    let next3 : (y : Node) → next_of l3 y ≡ next_of l2 y = field_kept (λ q. q.next) l2 l3 f.next _ p3 (ap (λ q. q.next) ea) in
    let owner3 : (y : Node) → owner_of l3 y ≡ owner_of l2 y = field_kept (λ q. q.owner) l2 l3 f.next _ p3 (ap (λ q. q.owner) ea) in
    let count3 : (y : Node) → count_of l3 y ≡ count_of l2 y = field_kept (λ q. q.count) l2 l3 f.next _ p3 (ap (λ q. q.count) ea) in
    let prev4 : (y : Node) → prev_of l4 y ≡ prev_of l3 y = field_kept (λ q. q.prev) l3 l4 f.prev _ p4 (ap (λ q. q.prev) el) in
    let owner4 : (y : Node) → owner_of l4 y ≡ owner_of l3 y = field_kept (λ q. q.owner) l3 l4 f.prev _ p4 (ap (λ q. q.owner) el) in
    let count4 : (y : Node) → count_of l4 y ≡ count_of l3 y = field_kept (λ q. q.count) l3 l4 f.prev _ p4 (ap (λ q. q.count) el) in
    record {
      into = ap (next_of l5) (sym tp) ∙ (ap (λ q. q.next) (p5.others t.prev nf) ∙ (ap (λ q. q.next) (p4.others t.prev ne) ∙ (next3 t.prev ∙ (ap (λ q. q.next) p2.here ∙ fn))));
      back_into = ap (prev_of l5) (sym fn) ∙ (ap (λ q. q.prev) (p5.others f.next (λ q. no_head from f.next uf (sym q))) ∙ (prev4 f.next ∙ (ap (λ q. q.prev) p3.here ∙ tp)));
      out = ap (next_of l5) (sym fp) ∙ (ap (λ q. q.next) (p5.others f.prev (λ q. no_head from f.prev ul (sym q))) ∙ ap (λ q. q.next) p4.here);
      back_out = ap (λ q. q.prev) (p5.others (Head to) apart) ∙ (prev4 (Head to) ∙ (ap (λ q. q.prev) (p3.others (Head to) (no_head to f.next uf)) ∙ (prev2 (Head to) ∙ (ap (λ q. q.prev) p1.here ∙ fp))));
      counted = ap (λ q. q.count) (p5.others (Head to) apart) ∙ (count4 (Head to) ∙ (count3 (Head to) ∙ (count2 (Head to) ∙ (ap (λ q. q.count) p1.here ∙ ap₂ (λ m n. m + n) (ap (λ q. q.count) et) (ap (λ q. q.count) ef)))));
      none = (ap (λ q. q.next) p5.here, ap (λ q. q.prev) p5.here, ap (λ q. q.count) p5.here);
      nexts = λ y nt np nh. ap (λ q. q.next) (p5.others y nh) ∙ (ap (λ q. q.next) (p4.others y (λ z. np (z ∙ fp))) ∙ (next3 y ∙ (ap (λ q. q.next) (p2.others y (λ z. nt (z ∙ tp))) ∙ next1 y)));
      prevs = λ y nn nt nh. ap (λ q. q.prev) (p5.others y nh) ∙ (prev4 y ∙ (ap (λ q. q.prev) (p3.others y (λ z. nn (z ∙ fn))) ∙ (prev2 y ∙ ap (λ q. q.prev) (p1.others y nt))));
      owners = λ y nh. ap (λ q. q.owner) (p5.others y nh) ∙ (owner4 y ∙ (owner3 y ∙ (owner2 y ∙ owner1 y)));
      counts = λ w nf' nt. ap (λ q. q.count) (p5.others (Head w) (λ z. nf' (cc))) ∙ (count4 (Head w) ∙ (count3 (Head w) ∙ (count2 (Head w) ∙ ap (λ q. q.count) (p1.others (Head w) (λ z. nt (cc))))));
    }

module _ (old mid new : Node → Link) (rings : AreRings old) (from to : Val) (x : Node) (xs : List Node) (are : nodes_of old from ≡ x ∷ xs) (differ : from ≢ to)
    (names : Renames old mid (nodes_of old from) to) (joins : Joins mid new from to) where
  chain : IsChain (next_of old) (prev_of old) (Head from) (x ∷ xs) (Head from)
  chain = subst (λ ys. IsChain (next_of old) (prev_of old) (Head from) ys (Head from)) are (rings from).chain

  apart : IsApart (x ∷ xs)
  apart = subst IsApart are (rings from).apart

  mine : (y : Node) → IsIn y (x ∷ xs) → IsIn y (nodes_of old from)
  mine y = subst (IsIn y) (sym are)

  first : next_of mid (Head from) ≡ x
  first = names.nexts (Head from) ∙ chain.0

  end : prev_of mid (Head to) ≡ prev_of old (Head to)
  end = names.prevs (Head to)

  last : prev_of mid (Head from) ≡ prev_of old (Head from)
  last = names.prevs (Head from)

  -- links of other values' nodes
  next_other : (y : Node) → y ≢ prev_of old (Head to) → y ≢ prev_of old (Head from) → y ≢ Head from → next_of new y ≡ next_of old y
  next_other y a b c = joins.nexts y (λ q. a (q ∙ end)) (λ q. b (q ∙ last)) c ∙ names.nexts y

  prev_other : (y : Node) → y ≢ x → y ≢ Head to → y ≢ Head from → prev_of new y ≡ prev_of old y
  prev_other y a b c = joins.prevs y (λ q. a (q ∙ first)) b c ∙ names.prevs y

  not_from : (w : Val) → w ≢ from → (y : Node) → Mine old w y → (z : Node) → Mine old from z → y ≢ z
  not_from w n y i z j q = n (one_owner old rings w from y i (subst (Mine old from) (sym q) j))

  not_to : (w : Val) → w ≢ to → (y : Node) → Mine old w y → (z : Node) → Mine old to z → y ≢ z
  not_to w n y i z j q = n (one_owner old rings w to y i (subst (Mine old to) (sym q) j))

  a_use : (y : Node) → IsIn y (x ∷ xs) → (w : Val) → y ≢ Head w
  a_use y i w = not_head w y ((rings from).uses y (mine y i))

  to_from : to ≢ from
  to_from q = differ (sym q)

  behind : IsChain (next_of new) (prev_of new) x xs (Head to)
  behind =
      ended (next_of old) (prev_of old) (next_of new) (prev_of new) x (Head from) (Head to) xs chain.2 apart
      (ap (next_of new) (sym last) ∙ joins.out) (joins.back_out ∙ last)
      (λ y i n. next_other y (not_to from differ y (inr (mine y i)) _ (last_mine old rings to)) n (a_use y i from))
      (λ y i. prev_other y (λ q. apart.0 (subst (λ z. IsIn z xs) q i)) (a_use y (inr i) to) (a_use y (inr i) from))

  pub moved : IsRing new to (nodes_of new to) × (nodes_of new to ≡ nodes_of old to ++ nodes_of old from)
  moved =
      let ys = nodes_of old to in
      let got = settled new to (ys ++ x ∷ xs)
      (record {
        chain = carried (next_of old) (prev_of old) (next_of new) (prev_of new) (Head to) (Head to) x ys xs (rings to).chain (apart_head old rings to)
            (ap (next_of new) (sym end) ∙ (joins.into ∙ first)) (ap (prev_of new) (sym first) ∙ (joins.back_into ∙ end)) behind
            (λ y i n. next_other y n (not_from to to_from y i _ (last_mine old rings from)) (not_from to to_from y i (Head from) (inl refl)))
            (λ y i. prev_other y (not_from to to_from y (inr i) x (inr (mine x (inl refl)))) (not_head to y ((rings to).uses y i)) (not_head from y ((rings to).uses y i)));
        apart = apart_both ys (x ∷ xs) (rings to).apart apart (λ y i j. not_from to to_from y (inr i) y (inr (mine y j)) refl);
        uses = λ y i. elim (in_either y ys (x ∷ xs) i) [ inl j ↦ (rings to).uses y j | inr j ↦ (rings from).uses y (mine y j) ];
        owned = λ y i. elim (in_either y ys (x ∷ xs) i) [
          | inl j ↦ joins.owners y (not_head from y ((rings to).uses y j)) ∙ (names.owners y (λ k. not_from to to_from y (inr j) y (inr k) refl) ∙ (rings to).owned y j)
          | inr j ↦ joins.owners y (a_use y j from) ∙ names.renamed y (mine y j)
        ];
      })
      (omega (arith, joins.counted, names.counts (Head to), names.counts (Head from), counted_nodes old to, counted_nodes old from, ap length are, length-append ys (x ∷ xs))) in
      (got.0, got.1 ∙ ap (λ zs. ys ++ zs) (sym are))

  pub emptied : IsRing new from (nodes_of new from) × (nodes_of new from ≡ [])
  emptied = settled new from [] (record { chain = (joins.none.0, joins.none.1); apart = tt; uses = λ y i. absurd i; owned = λ y i. absurd i }) joins.none.2

  pub besides : (w : Val) → w ≢ from → w ≢ to → IsRing new w (nodes_of new w) × (nodes_of new w ≡ nodes_of old w)
  besides w n m =
      stays old rings new w
      (λ y i. next_other y (not_to w m y i _ (last_mine old rings to)) (not_from w n y i _ (last_mine old rings from)) (not_from w n y i (Head from) (inl refl)))
      (λ y i. prev_other y (not_from w n y i x (inr (mine x (inl refl)))) (not_to w m y i (Head to) (inl refl)) (not_from w n y i (Head from) (inl refl)))
      (λ y i. joins.owners y (not_from w n y (inr i) (Head from) (inl refl)) ∙ names.owners y (λ k. not_from w n y (inr i) y (inr k) refl))
      (joins.counts w n m ∙ names.counts (Head w))

  pub move_rings : AreRings new
  move_rings w = elim (val_cases w from) [
    | inl e ↦ subst (λ z. IsRing new z (nodes_of new z)) (sym e) emptied.0
    | inr n ↦ elim (val_cases w to) [ inl e ↦ subst (λ z. IsRing new z (nodes_of new z)) (sym e) moved.0 | inr m ↦ (besides w n m).0 ]
  ]

module _ (old mid : Node → Link) (rings : AreRings old) (from to : Val) (x : Node) (xs : List Node) (are : nodes_of old from ≡ x ∷ xs) (names : Renames old mid (nodes_of old from) to) where
  chain_of : IsChain (next_of old) (prev_of old) (Head from) (x ∷ xs) (Head from)
  chain_of = subst (λ ys. IsChain (next_of old) (prev_of old) (Head from) ys (Head from)) are (rings from).chain

  its : (y : Node) → IsIn y (x ∷ xs) → IsIn y (nodes_of old from)
  its y = subst (IsIn y) (sym are)

  pub first_use : IsUse (next_of mid (Head from))
  first_use = subst IsUse (sym (names.nexts (Head from) ∙ chain_of.0)) ((rings from).uses x (its x (inl refl)))

  last_mine_use : IsIn (prev_of old (Head from)) (nodes_of old from)
  last_mine_use = its (prev_of old (Head from)) (elim (last_in (next_of old) (prev_of old) x (Head from) xs chain_of.2) [ inl e ↦ inl e | inr i ↦ inr i ])

  pub first_in : IsIn (next_of mid (Head from)) (nodes_of old from)
  first_in = subst (λ z. IsIn z (nodes_of old from)) (sym (names.nexts (Head from) ∙ chain_of.0)) (its x (inl refl))

  pub last_in_from : IsIn (prev_of mid (Head from)) (nodes_of old from)
  last_in_from = subst (λ z. IsIn z (nodes_of old from)) (sym (names.prevs (Head from))) last_mine_use

  pub last_use : IsUse (prev_of mid (Head from))
  last_use = (rings from).uses _ last_in_from

  pub end_mine : Mine old to (prev_of mid (Head to))
  end_mine = subst (Mine old to) (sym (names.prevs (Head to))) (last_mine old rings to)

pub some_nodes : (links : Node → Link) (v : Val) (n : ℕ) → n ≡ count_of links (Head v) → n ≢ 0 → (x : Node) × (xs : List Node) × (nodes_of links v ≡ x ∷ xs)
some_nodes links v n e m = got (nodes_of links v) refl
  where
    got : (ys : List Node) → nodes_of links v ≡ ys → (x : Node) × (xs : List Node) × (nodes_of links v ≡ x ∷ xs)
    got [] q = absurd (m (omega (arith, e, counted_nodes links v, ap length q)))
    got (x ∷ xs) q = (x, xs, q)

pub no_nodes : (links : Node → Link) (v : Val) (n : ℕ) → n ≡ count_of links (Head v) → n ≡ 0 → nodes_of links v ≡ []
no_nodes links v n e m = got (nodes_of links v) refl
  where
    got : (ys : List Node) → nodes_of links v ≡ ys → nodes_of links v ≡ []
    got [] q = q
    got (x ∷ xs) q = absurd (omega (arith, e, m, counted_nodes links v, ap length q))

pub renamed_nodes : (old mid : Node → Link) (from to : Val) (n : ℕ) → n ≡ count_of old (Head from) → Renames old mid (walk (next_of old) n (Head from)) to → Renames old mid (nodes_of old from) to
unfolding nodes_of
renamed_nodes old mid from to n e r = subst (λ m. Renames old mid (walk (next_of old) m (Head from)) to) e r

pub walked_nodes : (links : Node → Link) (v : Val) (n : ℕ) → n ≡ count_of links (Head v) → (y : Node) → IsIn y (walk (next_of links) n (Head v)) → IsIn y (nodes_of links v)
unfolding nodes_of
walked_nodes links v n e y i = subst (λ m. IsIn y (walk (next_of links) m (Head v))) e i

-- The head of a value without uses is forgotten.
module _ (old new : Node → Link) (rings : AreRings old) (v : Val) (none : count_of old (Head v) ≡ 0) (puts : Puts old new (Head v) (no_link (Head v))) where
  pub unheaded : (w : Val) → IsRing new w (nodes_of new w) × (nodes_of new w ≡ nodes_of old w)
  unheaded w = elim (val_cases w v) [
    | inl e ↦ subst (λ z. IsRing new z (nodes_of new z) × (nodes_of new z ≡ nodes_of old z)) (sym e) here
    | inr n ↦
        let apart : (y : Node) → Mine old w y → y ≢ Head v = λ y i q. n (one_owner old rings w v y i (inl q)) in
        stays old rings new w (λ y i. ap (λ k. k.next) (puts.others y (apart y i))) (λ y i. ap (λ k. k.prev) (puts.others y (apart y i)))
        (λ y i. ap (λ k. k.owner) (puts.others y (apart y (inr i)))) (ap (λ k. k.count) (puts.others (Head w) (apart (Head w) (inl refl))))
  ]
    where
      here : IsRing new v (nodes_of new v) × (nodes_of new v ≡ nodes_of old v)
      here =
          let got = settled new v [] (record { chain = (ap (λ k. k.next) puts.here, ap (λ k. k.prev) puts.here); apart = tt; uses = λ y i. absurd i; owned = λ y i. absurd i }) (ap (λ k. k.count) puts.here) in
          (got.0, got.1 ∙ sym (no_nodes old v (count_of old (Head v)) refl none))
