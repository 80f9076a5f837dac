-- How the uses of values change.
use Rattle.std.proofs.Common.{◌≡◌, ◌≢◌, ◌⊎◌, inl, inr, ℕ, ◌+◌, ◌<◌, List, [], ◌∷◌, ◌++◌, length, sym, ap, ap₂, ◌∙◌, subst, arith, length-append}
use Rattle.std.proofs.lemmas.Bool.{cases_eq}
use Rattle.mlir_tree.specs.declared.value.Val.{Val}
use Rattle.mlir_tree.specs.declared.value.Val.TheVariants.{Res, Arg}
use Rattle.use_lists.specs.declared.nodes.Node.{Node}
use Rattle.use_lists.specs.declared.nodes.Node.TheVariants.{Head, Use}
use Rattle.use_lists.specs.declared.nodes.Link.{Link}
use Rattle.use_lists.specs.Nodes.{Puts}
use Rattle.use_lists.specs.Chain.{IsIn, IsApart, walk, IsChain}
use Rattle.use_lists.specs.Rings.{next_of, prev_of, owner_of, count_of, IsUse, nodes_of, IsRing, AreRings, Appends, Cuts}
use Rattle.use_lists.proofs.Chains.{in_front, in_back, in_either, apart_both, apart_cut, apart_mid, parted, last_in, before, after, link_into, link_out, chain_behind, walked, walk_len, kept, carried, cut}

-- two values are the same or not
pub val_cases : (v w : Val) → (v ≡ w) ⊎ (v ≢ w)
val_cases (Res a b) (Res c d) =
    elim (cases_eq a c) [
      | inl e ↦ elim (cases_eq b d) [ inl f ↦ inl (ap₂ Res e f) | inr n ↦ inr (λ q. n (cc)) ]
      | inr n ↦ inr (λ q. n (cc))
    ]
val_cases (Arg a b c) (Arg d e f) =
    elim (cases_eq a d) [
      | inl p ↦ elim (cases_eq b e) [
        | inl q ↦ elim (cases_eq c f) [ inl r ↦ inl (cc) | inr n ↦ inr (λ q. n (cc)) ]
        | inr n ↦ inr (λ q. n (cc))
      ]
      | inr n ↦ inr (λ q. n (cc))
    ]
val_cases (Res a b) (Arg c d e) = inr (λ q. cc)
val_cases (Arg a b c) (Res d e) = inr (λ q. cc)

pub node_cases : (x y : Node) → (x ≡ y) ⊎ (x ≢ y)
node_cases (Head v) (Head w) = elim (val_cases v w) [ inl e ↦ inl (ap Head e) | inr n ↦ inr (λ q. n (cc)) ]
node_cases (Use a b) (Use c d) =
    elim (cases_eq a c) [
      | inl e ↦ elim (cases_eq b d) [ inl f ↦ inl (ap₂ Use e f) | inr n ↦ inr (λ q. n (cc)) ]
      | inr n ↦ inr (λ q. n (cc))
    ]
node_cases (Head v) (Use a b) = inr (λ q. cc)
node_cases (Use a b) (Head v) = inr (λ q. cc)

-- a write keeps what it writes back
pub field_kept : {B : Type 0} (f : Link → B) (old new : Node → Link) (at : Node) (k : Link) → Puts old new at k → f k ≡ f (old at) → (y : Node) → f (new y) ≡ f (old y)
field_kept f old new at k p e y =
    elim (node_cases y at) [
      | inl q ↦ ap (λ z. f (new z)) q ∙ (ap f p.here ∙ (e ∙ ap (λ z. f (old z)) (sym q)))
      | inr n ↦ ap f (p.others y n)
    ]

abbrev with_next : Link → Node → Link
with_next k n = record { prev = k.prev; next = n; owner = k.owner; count = k.count }

pub appended : (l0 l1 l2 l3 : Node → Link) (v : Val) (r p : ℕ) (a b c : Link) → a ≡ l0 (Head v) → b ≡ l1 a.prev → c ≡ l2 (Head v) → a.prev ≢ Use r p
    → Puts l0 l1 (Use r p) (record { prev = a.prev; next = Head v; owner = v; count = 0 })
    → Puts l1 l2 a.prev (record { prev = b.prev; next = Use r p; owner = b.owner; count = b.count })
    → Puts l2 l3 (Head v) (record { prev = Use r p; next = c.next; owner = c.owner; count = c.count + 1 }) → Appends l0 l3 v (Use r p)
appended l0 l1 l2 l3 v r p a b c ea eb ec fresh p1 p2 p3 =
    let last : a.prev ≡ prev_of l0 (Head v) = ap (λ k. k.prev) ea in
    let next3 : (y : Node) → next_of l3 y ≡ next_of l2 y = field_kept (λ k. k.next) l2 l3 (Head v) _ p3 (ap (λ k. k.next) ec) in
    let owner3 : (y : Node) → owner_of l3 y ≡ owner_of l2 y = field_kept (λ k. k.owner) l2 l3 (Head v) _ p3 (ap (λ k. k.owner) ec) in
    let prev2 : (y : Node) → prev_of l2 y ≡ prev_of l1 y = field_kept (λ k. k.prev) l1 l2 a.prev _ p2 (ap (λ k. k.prev) eb) in
    let owner2 : (y : Node) → owner_of l2 y ≡ owner_of l1 y = field_kept (λ k. k.owner) l1 l2 a.prev _ p2 (ap (λ k. k.owner) eb) in
    let count2 : (y : Node) → count_of l2 y ≡ count_of l1 y = field_kept (λ k. k.count) l1 l2 a.prev _ p2 (ap (λ k. k.count) eb) in
    let new : (w : Val) → Head w ≢ Use r p = λ w q. cc in
    record {
      into = ap (next_of l3) (sym last) ∙ (next3 a.prev ∙ ap (λ k. k.next) p2.here);
      out = next3 (Use r p) ∙ (ap (λ k. k.next) (p2.others (Use r p) (λ q. fresh (sym q))) ∙ ap (λ k. k.next) p1.here);
      back_into = ap (λ k. k.prev) p3.here;
      back_out = ap (λ k. k.prev) (p3.others (Use r p) (λ q. cc)) ∙ (prev2 (Use r p) ∙ (ap (λ k. k.prev) p1.here ∙ last));
      owner = owner3 (Use r p) ∙ (owner2 (Use r p) ∙ ap (λ k. k.owner) p1.here);
      counted = ap (λ k. k.count) p3.here ∙ ap (λ n. n + 1) (ap (λ k. k.count) ec ∙ (count2 (Head v) ∙ ap (λ k. k.count) (p1.others (Head v) (new v))));
      nexts = λ y n m. next3 y ∙ (ap (λ k. k.next) (p2.others y (λ q. n (q ∙ last))) ∙ ap (λ k. k.next) (p1.others y m));
      prevs = λ y n m. ap (λ k. k.prev) (p3.others y n) ∙ (prev2 y ∙ ap (λ k. k.prev) (p1.others y m));
      owners = λ y m. owner3 y ∙ (owner2 y ∙ ap (λ k. k.owner) (p1.others y m));
      counts = λ w n. ap (λ k. k.count) (p3.others (Head w) (λ q. n (cc))) ∙ (count2 (Head w) ∙ ap (λ k. k.count) (p1.others (Head w) (new w)));
    }

pub cut_links : (l0 l1 l2 l3 l4 : Node → Link) (at : Node) (k b a h e : Link) (m : ℕ) → k ≡ l0 at → b ≡ l0 k.prev → a ≡ l1 k.next → h ≡ l2 (Head k.owner)
    → k.prev ≢ at → k.next ≢ at → IsUse at → m + 1 ≡ h.count
    → Puts l0 l1 k.prev (record { prev = b.prev; next = k.next; owner = b.owner; count = b.count })
    → Puts l1 l2 k.next (record { prev = k.prev; next = a.next; owner = a.owner; count = a.count })
    → Puts l2 l3 (Head k.owner) (record { prev = h.prev; next = h.next; owner = h.owner; count = m }) → Puts l3 l4 at e → Cuts l0 l4 k.owner at
cut_links l0 l1 l2 l3 l4 at k b a h e m ek eb ea eh np nn a_use less p1 p2 p3 p4 =
    let before : k.prev ≡ prev_of l0 at = ap (λ q. q.prev) ek in
    let after : k.next ≡ next_of l0 at = ap (λ q. q.next) ek in
    let prev1 : (y : Node) → prev_of l1 y ≡ prev_of l0 y = field_kept (λ q. q.prev) l0 l1 k.prev _ p1 (ap (λ q. q.prev) eb) in
    let owner1 : (y : Node) → owner_of l1 y ≡ owner_of l0 y = field_kept (λ q. q.owner) l0 l1 k.prev _ p1 (ap (λ q. q.owner) eb) in
    let count1 : (y : Node) → count_of l1 y ≡ count_of l0 y = field_kept (λ q. q.count) l0 l1 k.prev _ p1 (ap (λ q. q.count) eb) in
    let next2 : (y : Node) → next_of l2 y ≡ next_of l1 y = field_kept (λ q. q.next) l1 l2 k.next _ p2 (ap (λ q. q.next) ea) in
    let owner2 : (y : Node) → owner_of l2 y ≡ owner_of l1 y = field_kept (λ q. q.owner) l1 l2 k.next _ p2 (ap (λ q. q.owner) ea) in
    let count2 : (y : Node) → count_of l2 y ≡ count_of l1 y = field_kept (λ q. q.count) l1 l2 k.next _ p2 (ap (λ q. q.count) ea) in
    let next3 : (y : Node) → next_of l3 y ≡ next_of l2 y = field_kept (λ q. q.next) l2 l3 (Head k.owner) _ p3 (ap (λ q. q.next) eh) in
    let prev3 : (y : Node) → prev_of l3 y ≡ prev_of l2 y = field_kept (λ q. q.prev) l2 l3 (Head k.owner) _ p3 (ap (λ q. q.prev) eh) in
    let owner3 : (y : Node) → owner_of l3 y ≡ owner_of l2 y = field_kept (λ q. q.owner) l2 l3 (Head k.owner) _ p3 (ap (λ q. q.owner) eh) in
    let head : (w : Val) → Head w ≢ at = λ w q. subst IsUse (sym q) a_use in
    record {
      onward = ap (next_of l4) (sym before) ∙ (ap (λ q. q.next) (p4.others k.prev np) ∙ (next3 k.prev ∙ (next2 k.prev ∙ (ap (λ q. q.next) p1.here ∙ after))));
      back = ap (prev_of l4) (sym after) ∙ (ap (λ q. q.prev) (p4.others k.next nn) ∙ (prev3 k.next ∙ (ap (λ q. q.prev) p2.here ∙ before)));
      counted = ap (λ n. n + 1) (ap (λ q. q.count) (p4.others (Head k.owner) (head k.owner)) ∙ ap (λ q. q.count) p3.here) ∙ (less ∙ (ap (λ q. q.count) eh ∙ (count2 (Head k.owner) ∙ count1 (Head k.owner))));
      nexts = λ y n m. ap (λ q. q.next) (p4.others y m) ∙ (next3 y ∙ (next2 y ∙ ap (λ q. q.next) (p1.others y (λ z. n (z ∙ before)))));
      prevs = λ y n m. ap (λ q. q.prev) (p4.others y m) ∙ (prev3 y ∙ (ap (λ q. q.prev) (p2.others y (λ z. n (z ∙ after))) ∙ prev1 y));
      owners = λ y m. ap (λ q. q.owner) (p4.others y m) ∙ (owner3 y ∙ (owner2 y ∙ owner1 y));
      counts = λ w n. ap (λ q. q.count) (p4.others (Head w) (head w)) ∙ (ap (λ q. q.count) (p3.others (Head w) (λ z. n (cc))) ∙ (count2 (Head w) ∙ count1 (Head w)));
    }

pub count_kept : (l0 l1 l2 : Node → Link) (at at' : Node) (b a : Link) (n' p' : Node) → b ≡ l0 at → a ≡ l1 at' → Puts l0 l1 at (record { prev = b.prev; next = n'; owner = b.owner; count = b.count })
    → Puts l1 l2 at' (record { prev = p'; next = a.next; owner = a.owner; count = a.count }) → (y : Node) → count_of l2 y ≡ count_of l0 y
count_kept l0 l1 l2 at at' b a n' p' eb ea p1 p2 y =
    field_kept (λ q. q.count) l1 l2 at' _ p2 (ap (λ q. q.count) ea) y ∙ field_kept (λ q. q.count) l0 l1 at _ p1 (ap (λ q. q.count) eb) y

-- ---- rings

-- the head of a value and its uses
abbrev pub Mine : (Node → Link) → Val → Node → Type 0
Mine links v y = IsIn y (Head v ∷ nodes_of links v)

pub not_head : (v : Val) (x : Node) → IsUse x → x ≢ Head v
not_head v (Head w) u = absurd u
not_head v (Use r p) u = λ q. cc

-- a list of nodes that is a ring is the list that is found
pub settled : (links : Node → Link) (v : Val) (xs : List Node) → IsRing links v xs → count_of links (Head v) ≡ length xs → IsRing links v (nodes_of links v) × (nodes_of links v ≡ xs)
unfolding nodes_of
settled links v xs ring n =
    let same : walk (next_of links) (count_of links (Head v)) (Head v) ≡ xs =
    ap (λ m. walk (next_of links) m (Head v)) n ∙ walked (next_of links) (prev_of links) (Head v) (Head v) xs ring.chain in
    (subst (IsRing links v) (sym same) ring, same)

pub counted_nodes : (links : Node → Link) (v : Val) → length (nodes_of links v) ≡ count_of links (Head v)
unfolding nodes_of
counted_nodes links v = walk_len (next_of links) (count_of links (Head v)) (Head v)

module _ (old : Node → Link) (rings : AreRings old) where
  pub no_head : (v w : Val) → ¬ IsIn (Head w) (nodes_of old v)
  no_head v w i = (rings v).uses (Head w) i

  pub apart_head : (v : Val) → IsApart (Head v ∷ nodes_of old v)
  apart_head v = (no_head v v, (rings v).apart)

  -- each node is of one value
  pub one_owner : (v w : Val) (y : Node) → Mine old v y → Mine old w y → v ≡ w
  one_owner v w y (inl e) (inl f) = let q : Head v ≡ Head w = sym e ∙ f in cc
  one_owner v w y (inl e) (inr j) = absurd (no_head w v (subst (λ z. IsIn z (nodes_of old w)) e j))
  one_owner v w y (inr i) (inl f) = absurd (no_head v w (subst (λ z. IsIn z (nodes_of old v)) f i))
  one_owner v w y (inr i) (inr j) = sym ((rings v).owned y i) ∙ (rings w).owned y j

  pub last_mine : (v : Val) → Mine old v (prev_of old (Head v))
  last_mine v = last_in (next_of old) (prev_of old) (Head v) (Head v) (nodes_of old v) (rings v).chain

  module _ (new : Node → Link) where
    -- a ring whose links stay
    pub stays : (w : Val) → ((y : Node) → Mine old w y → next_of new y ≡ next_of old y) → ((y : Node) → Mine old w y → prev_of new y ≡ prev_of old y)
        → ((y : Node) → IsIn y (nodes_of old w) → owner_of new y ≡ owner_of old y) → count_of new (Head w) ≡ count_of old (Head w)
        → IsRing new w (nodes_of new w) × (nodes_of new w ≡ nodes_of old w)
    stays w n p o c =
        settled new w (nodes_of old w)
        (record {
          chain = kept (next_of old) (prev_of old) (next_of new) (prev_of new) (Head w) (Head w) (nodes_of old w) (rings w).chain n p;
          apart = (rings w).apart;
          uses = (rings w).uses;
          owned = λ x i. o x i ∙ (rings w).owned x i;
        })
        (c ∙ sym (counted_nodes old w))

    module _ (v : Val) (r p : ℕ) (puts : Appends old new v (Use r p)) (fresh : (w : Val) → ¬ IsIn (Use r p) (nodes_of old w)) where
      grown : IsRing new v (nodes_of new v) × (nodes_of new v ≡ nodes_of old v ++ Use r p ∷ [])
      grown =
          let xs = nodes_of old v in
          let not_new : (y : Node) → Mine old v y → y ≢ Use r p = λ y i q. elim i [ inl e ↦ let z : Head v ≡ Use r p = sym e ∙ q in cc | inr j ↦ fresh v (subst (λ z. IsIn z xs) q j) ] in
          settled new v (xs ++ Use r p ∷ [])
          (record {
            chain = carried (next_of old) (prev_of old) (next_of new) (prev_of new) (Head v) (Head v) (Use r p) xs [] (rings v).chain (apart_head v) puts.into puts.back_out
                (puts.out, puts.back_into)
                (λ y i n. puts.nexts y n (not_new y i))
                (λ y i. puts.prevs y (not_head v y ((rings v).uses y i)) (not_new y (inr i)));
            apart = apart_both xs (Use r p ∷ []) (rings v).apart (λ i. i, tt) (λ x i j. elim j [ inl e ↦ fresh v (subst (λ z. IsIn z xs) e i) | inr k ↦ k ]);
            uses = λ x i. elim (in_either x xs (Use r p ∷ []) i) [ inl j ↦ (rings v).uses x j | inr j ↦ elim j [ inl e ↦ subst IsUse (sym e) tt | inr k ↦ absurd k ] ];
            owned = λ x i. elim (in_either x xs (Use r p ∷ []) i) [
              | inl j ↦ puts.owners x (not_new x (inr j)) ∙ (rings v).owned x j
              | inr j ↦ elim j [ inl e ↦ ap (owner_of new) e ∙ puts.owner | inr k ↦ absurd k ]
            ];
          })
          (omega (arith, puts.counted, counted_nodes old v, length-append xs (Use r p ∷ [])))

      beside : (w : Val) → w ≢ v → IsRing new w (nodes_of new w) × (nodes_of new w ≡ nodes_of old w)
      beside w n =
          let not_new : (y : Node) → Mine old w y → y ≢ Use r p = λ y i q. elim i [ inl e ↦ let z : Head w ≡ Use r p = sym e ∙ q in cc | inr j ↦ fresh w (subst (λ z. IsIn z (nodes_of old w)) q j) ] in
          stays w
          (λ y i. puts.nexts y (λ q. n (one_owner w v y i (subst (Mine old v) (sym q) (last_mine v)))) (not_new y i))
          (λ y i. puts.prevs y (λ q. n (one_owner w v y i (inl q))) (not_new y i))
          (λ y i. puts.owners y (not_new y (inr i)))
          (puts.counts w n)

      pub append_rings : AreRings new
      append_rings w = elim (val_cases w v) [ inl e ↦ subst (λ z. IsRing new z (nodes_of new z)) (sym e) grown.0 | inr n ↦ (beside w n).0 ]

      pub append_here : nodes_of new v ≡ nodes_of old v ++ Use r p ∷ []
      append_here = grown.1

      pub append_beside : (w : Val) → w ≢ v → nodes_of new w ≡ nodes_of old w
      append_beside w n = (beside w n).1

  pub not_last : (v : Val) (r p : ℕ) → ((w : Val) → ¬ IsIn (Use r p) (nodes_of old w)) → prev_of old (Head v) ≢ Use r p
  not_last v r p fresh q = elim (last_mine v) [ inl e ↦ let z : Head v ≡ Use r p = sym e ∙ q in cc | inr i ↦ fresh v (subst (λ z. IsIn z (nodes_of old v)) q i) ]

  -- what stands at a use
  module _ (v : Val) (x : Node) (there : IsIn x (nodes_of old v)) where
    parts : (us : List Node) × (vs : List Node) × (nodes_of old v ≡ us ++ x ∷ vs)
    parts = parted x (nodes_of old v) there

    chain_there : IsChain (next_of old) (prev_of old) (Head v) (parts.0 ++ x ∷ parts.1) (Head v)
    chain_there = subst (λ ys. IsChain (next_of old) (prev_of old) (Head v) ys (Head v)) parts.2 (rings v).chain

    pub owner_there : owner_of old x ≡ v
    owner_there = (rings v).owned x there

    pub use_there : IsUse x
    use_there = (rings v).uses x there

    pub before_mine : Mine old v (prev_of old x)
    before_mine = elim (before (next_of old) (prev_of old) (Head v) (Head v) x parts.0 parts.1 chain_there) [
      | inl e ↦ inl e
      | inr i ↦ inr (subst (IsIn (prev_of old x)) (sym parts.2) (in_front (prev_of old x) parts.0 (x ∷ parts.1) i))
    ]

    pub after_mine : Mine old v (next_of old x)
    after_mine = elim (after (next_of old) (prev_of old) (Head v) (Head v) x parts.0 parts.1 chain_there) [
      | inl e ↦ inl e
      | inr i ↦ inr (subst (IsIn (next_of old x)) (sym parts.2) (in_back (next_of old x) parts.0 (x ∷ parts.1) (inr i)))
    ]

    pub follows_there : (us : List Node) × (vs : List Node) × (nodes_of old v ≡ us ++ x ∷ vs) × IsChain (next_of old) (prev_of old) x vs (Head v)
    follows_there = (parts.0, parts.1, parts.2, chain_behind (next_of old) (prev_of old) (Head v) (Head v) x parts.0 parts.1 chain_there)

    pub into_there : next_of old (prev_of old x) ≡ x
    into_there = link_into (next_of old) (prev_of old) (Head v) (Head v) x parts.0 parts.1 chain_there

    pub out_there : prev_of old (next_of old x) ≡ x
    out_there = link_out (next_of old) (prev_of old) (Head v) (Head v) x parts.0 parts.1 chain_there

    pub some_there : 0 < count_of old (Head v)
    some_there = omega (arith, counted_nodes old v, ap length parts.2, length-append parts.0 (x ∷ parts.1))

    apart_there : IsApart (Head v ∷ (parts.0 ++ x ∷ parts.1))
    apart_there = subst (λ ys. IsApart (Head v ∷ ys)) parts.2 (apart_head v)

    pub not_before : prev_of old x ≢ x
    not_before q = elim (before (next_of old) (prev_of old) (Head v) (Head v) x parts.0 parts.1 chain_there) [
      | inl e ↦ not_head v x use_there (sym q ∙ e)
      | inr i ↦ apart_mid x parts.0 parts.1 apart_there.1 (in_front x parts.0 parts.1 (subst (λ z. IsIn z parts.0) q i))
    ]

    pub not_after : next_of old x ≢ x
    not_after q = elim (after (next_of old) (prev_of old) (Head v) (Head v) x parts.0 parts.1 chain_there) [
      | inl e ↦ not_head v x use_there (sym q ∙ e)
      | inr i ↦ apart_mid x parts.0 parts.1 apart_there.1 (in_back x parts.0 parts.1 (subst (λ z. IsIn z parts.1) q i))
    ]

    module _ (new : Node → Link) (cuts : Cuts old new v x) where
      shrunk : IsRing new v (nodes_of new v) × (nodes_of new v ≡ parts.0 ++ parts.1)
      shrunk =
          let not_x : (y : Node) → IsIn y (parts.0 ++ parts.1) → y ≢ x = λ y i q. apart_mid x parts.0 parts.1 apart_there.1 (subst (λ z. IsIn z (parts.0 ++ parts.1)) q i) in
          let still : (y : Node) → IsIn y (parts.0 ++ parts.1) → IsIn y (nodes_of old v) =
          λ y i. subst (IsIn y) (sym parts.2) (elim (in_either y parts.0 parts.1 i) [ inl j ↦ in_front y parts.0 (x ∷ parts.1) j | inr j ↦ in_back y parts.0 (x ∷ parts.1) (inr j) ]) in
          settled new v (parts.0 ++ parts.1)
          (record {
            chain = cut (next_of old) (prev_of old) (next_of new) (prev_of new) (Head v) (Head v) x parts.0 parts.1 chain_there apart_there apart_there.0 cuts.onward cuts.back cuts.nexts cuts.prevs;
            apart = apart_cut x parts.0 parts.1 apart_there.1;
            uses = λ y i. (rings v).uses y (still y i);
            owned = λ y i. cuts.owners y (not_x y i) ∙ (rings v).owned y (still y i);
          })
          (omega (arith, cuts.counted, counted_nodes old v, ap length parts.2, length-append parts.0 (x ∷ parts.1), length-append parts.0 parts.1))

      besides : (w : Val) → w ≢ v → IsRing new w (nodes_of new w) × (nodes_of new w ≡ nodes_of old w)
      besides w n =
          let not_x : (y : Node) → Mine old w y → y ≢ x = λ y i q. n (one_owner w v y i (subst (Mine old v) (sym q) (inr there))) in
          stays new w
          (λ y i. cuts.nexts y (λ q. n (one_owner w v y i (subst (Mine old v) (sym q) before_mine))) (not_x y i))
          (λ y i. cuts.prevs y (λ q. n (one_owner w v y i (subst (Mine old v) (sym q) after_mine))) (not_x y i))
          (λ y i. cuts.owners y (not_x y (inr i)))
          (cuts.counts w n)

      pub cut_rings : AreRings new
      cut_rings w = elim (val_cases w v) [ inl e ↦ subst (λ z. IsRing new z (nodes_of new z)) (sym e) shrunk.0 | inr n ↦ (besides w n).0 ]

      pub cut_here : (us : List Node) × (vs : List Node) × (nodes_of old v ≡ us ++ x ∷ vs) × (nodes_of new v ≡ us ++ vs)
      cut_here = (parts.0, parts.1, parts.2, shrunk.1)

      pub cut_beside : (w : Val) → w ≢ v → nodes_of new w ≡ nodes_of old w
      cut_beside w n = (besides w n).1
