-- A new row just before another, in its block, leaves the rows laid out.
use Rattle.std.proofs.Common.{◌≡◌, ◌≢◌, ◌⊎◌, inl, inr, ℕ, zero, suc, ◌<◌, ◌≤◌, Bool, true, false, ◌||◌, List, [], ◌∷◌, ◌++◌, map, length, get_or, Option, Some, None, refl, sym, ap, subst, ◌∙◌, arith, eq-eqb}
use Rattle.std.specs.Prelude.{◌==◌, All, IfSome, nat_eq}
use Rattle.std.specs.List.{list_any, IsDistinct, AllByRecursion}
use Rattle.std.proofs.lemmas.Bool.{eqb-true}
use Rattle.std.proofs.lemmas.Bool.Decides.{nat_tests}
use Rattle.std.proofs.lemmas.List.Elements.{All-from_recursion, recursion_from_All}
use Rattle.mlir_tree.specs.declared.row.Home.{Home}
use Rattle.mlir_tree.specs.declared.row.Row.{Row}
use Rattle.mlir_tree.specs.Module.{has_row, is_earlier, enclosing, home_eq, is_inside, is_contained}
use Rattle.mlir_tree.specs.WellFormed.{AreDistinct, IsEarlierRegion, AreNested}
use Rattle.mlir_tree.specs.Laws.{is_parent}
use Rattle.mlir_tree.proofs.Visibility.{or_false}
use Rattle.row_index.specs.Walking.{number_at}
use Rattle.row_index.proofs.Searching.{within, read_at}
use Rattle.row_index.proofs.Walks.{one_place, enclosed_at, outer_home}
use Rattle.rewrite_model.proofs.LayoutSubstituted.{with_home}
use Rattle.rewrite_model.proofs.Places.{true_or_false, not_both, place_of, place_has, earlier_is_row, later_is_row, earlier_less, less_earlier, around_home, around_none}
use Rattle.rewrite_model.proofs.PutIn.{row_of-inserted, has_row-inserted, is_earlier-inserted, enclosing-inserted, enclosing-new}

-- ---- what is around a row

module _ (rows : List Row) (apart : AreDistinct rows) (nested : AreNested rows) where
  abbrev region : ℕ → ℕ → Home
  region d g = record { row = d; region = g }

  abbrev Around : ℕ → ℕ → Type 0
  Around j u = ((h : Home) × (p : ℕ) × (number_at rows p ≡ Some h.row) × (p < j) × (enclosing rows u ≡ h ∷ enclosing rows h.row)) ⊎ (enclosing rows u ≡ [])

  around : (j u : ℕ) (d : Row) → number_at rows j ≡ Some u → Around j u
  around j u d at = by (get_or rows j d).home refl where
    by : (o : Option Home) → (get_or rows j d).home ≡ o → Around j u
    by None e = inr (around_none rows apart nested j u d at e)
    by (Some h) e = let a = around_home rows apart nested j u h d at e in inl (h, a.0, a.1, a.2, a.3)

  either : (a b : Bool) → (a || b) ≡ true → (a ≡ true) ⊎ (b ≡ true)
  either true b p = inl refl
  either false b p = inr p

  is_home : (d g : ℕ) (h : Home) → home_eq (region d g) h ≡ true → (d ≡ h.row) × (g ≡ h.region)
  is_home d g h p = (grind (arith, nat_tests, p), grind (arith, nat_tests, p))

  -- a row around another stands before it
  stands_before : (n j u d g : ℕ) (r : Row) → j < n → number_at rows j ≡ Some u → is_inside rows u (region d g) ≡ true → (q : ℕ) × (number_at rows q ≡ Some d) × (q < j)
  stands_before zero j u d g r l at i = absurd (omega (arith, l))
  stands_before (suc n) j u d g r l at i = by (around j u r at) (λ p v le w. stands_before n p v d g r le w) where
    by : Around j u → ((p v : ℕ) → p < n → number_at rows p ≡ Some v → is_inside rows v (region d g) ≡ true → (q : ℕ) × (number_at rows q ≡ Some d) × (q < p)) → (q : ℕ) × (number_at rows q ≡ Some d) × (q < j)
    by (inr none) go = absurd (not_both (is_inside rows u (region d g)) i (ap (list_any (home_eq (region d g))) none))
    by (inl (h, p, is, before, e)) go = of (either (home_eq (region d g) h) (is_inside rows h.row (region d g)) (sym (ap (list_any (home_eq (region d g))) e) ∙ i)) where
      of : (home_eq (region d g) h ≡ true) ⊎ (is_inside rows h.row (region d g) ≡ true) → (q : ℕ) × (number_at rows q ≡ Some d) × (q < j)
      of (inl here) = (p, is ∙ ap Some (sym (is_home d g h here).0), before)
      of (inr there) = let q = go p h.row (omega (arith, l, before)) is there in (q.0, q.1, (let a = q.2 in omega (arith, a, before)))

  not_inside_itself : (j u g : ℕ) (r : Row) → number_at rows j ≡ Some u → is_inside rows u (region u g) ≡ true → ⊥
  not_inside_itself j u g r at i =
      let q = stands_before (suc j) j u u g r (omega arith) at i in
      let e = one_place rows q.0 j u apart q.1 at in
      let l = q.2 in omega (arith, e, l)

  -- a row stands in one region of each row around it
  pub one_region : (n j u d g k : ℕ) (r : Row) → j < n → number_at rows j ≡ Some u → is_inside rows u (region d g) ≡ true → is_inside rows u (region d k) ≡ true → g ≡ k
  one_region zero j u d g k r l at i i' = absurd (omega (arith, l))
  one_region (suc n) j u d g k r l at i i' = by (around j u r at) (λ p v le w. one_region n p v d g k r le w) where
    by : Around j u → ((p v : ℕ) → p < n → number_at rows p ≡ Some v → is_inside rows v (region d g) ≡ true → is_inside rows v (region d k) ≡ true → g ≡ k) → g ≡ k
    by (inr none) go = absurd (not_both (is_inside rows u (region d g)) i (ap (list_any (home_eq (region d g))) none))
    by (inl (h, p, is, before, e)) go =
        of (either (home_eq (region d g) h) (is_inside rows h.row (region d g)) (sym (ap (list_any (home_eq (region d g))) e) ∙ i))
        (either (home_eq (region d k) h) (is_inside rows h.row (region d k)) (sym (ap (list_any (home_eq (region d k))) e) ∙ i')) where
          of : (home_eq (region d g) h ≡ true) ⊎ (is_inside rows h.row (region d g) ≡ true) → (home_eq (region d k) h ≡ true) ⊎ (is_inside rows h.row (region d k) ≡ true) → g ≡ k
          of (inl a) (inl b) = (is_home d g h a).1 ∙ sym (is_home d k h b).1
          of (inr a) (inr b) = go p h.row (omega (arith, l, before)) is a b
          of (inl a) (inr b) = absurd (not_inside_itself p h.row k r is (subst (λ n. is_inside rows h.row (region n k) ≡ true) (is_home d g h a).0 b))
          of (inr a) (inl b) = absurd (not_inside_itself p h.row g r is (subst (λ n. is_inside rows h.row (region n g) ≡ true) (is_home d k h b).0 a))

-- ---- lists with one more member

pub with_one : (P Q : Row → Type 0) (f : (r : Row) → P r → Q r) (x : Row) → Q x → (ys zs : List Row) → AllByRecursion P (ys ++ zs) → AllByRecursion Q (ys ++ x ∷ zs)
with_one P Q f x q [] zs h = (q, rest zs h) where
  rest : (zs : List Row) → AllByRecursion P zs → AllByRecursion Q zs
  rest [] h = tt
  rest (z ∷ zs) h = (f z h.0, rest zs h.1)
with_one P Q f x q (y ∷ ys) zs h = (f y h.0, with_one P Q f x q ys zs h.1)

other_numbers : (n : ℕ) (rows : List Row) → has_row rows n ≡ false → AllByRecursion (λ k. nat_eq n k ≡ false) (map (λ r. r.id) rows)
other_numbers n [] h = tt
other_numbers n (r ∷ rows) h = let q = or_false (r.id == n) (has_row rows n) h in (turned (r.id) n q.0, other_numbers n rows q.1) where
  turned : (a b : ℕ) → (a == b) ≡ false → nat_eq b a ≡ false
  turned a b p = grind (arith, nat_tests, p)

one_more : (n : ℕ) (x : Row) → nat_eq n x.id ≡ false → (ys zs : List Row) → AllByRecursion (λ k. nat_eq n k ≡ false) (map (λ r. r.id) (ys ++ zs)) → AllByRecursion (λ k. nat_eq n k ≡ false) (map (λ r. r.id) (ys ++ x ∷ zs))
one_more n x q [] zs h = (q, h)
one_more n x q (y ∷ ys) zs h = (h.0, one_more n x q ys zs h.1)

pub distinct_inserted : (x : Row) (ys zs : List Row) → has_row (ys ++ zs) x.id ≡ false → AreDistinct (ys ++ zs) → AreDistinct (ys ++ x ∷ zs)
unfolding IsDistinct
distinct_inserted x [] zs new h = (other_numbers x.id zs new, h)
distinct_inserted x (y ∷ ys) zs new h =
    let q = or_false (y.id == x.id) (has_row (ys ++ zs) x.id) new in
    (one_more y.id x q.0 ys zs h.0, distinct_inserted x ys zs q.1 h.1)

same_place : (x : Row) (ys zs : List Row) (p : ℕ) → p < length ys → number_at (ys ++ x ∷ zs) p ≡ number_at (ys ++ zs) p
same_place x [] zs p l = absurd (omega (arith, l))
same_place x (y ∷ ys) zs zero l = refl
same_place x (y ∷ ys) zs (suc p) l = same_place x ys zs p (omega (arith, l))

new_place : (x : Row) (ys zs : List Row) → number_at (ys ++ x ∷ zs) (length ys) ≡ Some x.id
new_place x [] zs = refl
new_place x (y ∷ ys) zs = new_place x ys zs

new_row_at : (x d : Row) (ys zs : List Row) → get_or (ys ++ x ∷ zs) (length ys) d ≡ x
new_row_at x d [] zs = refl
new_row_at x d (y ∷ ys) zs = new_row_at x d ys zs

next_place : (x : Row) (ys zs : List Row) → number_at (ys ++ x ∷ zs) (suc (length ys)) ≡ number_at (ys ++ zs) (length ys)
next_place x [] zs = refl
next_place x (y ∷ ys) zs = next_place x ys zs

-- ---- the new row

module _ (ys zs : List Row) (x : Row) (root : ℕ) (h : Home) (apart : AreDistinct (ys ++ zs)) (nested : AreNested (ys ++ zs))
    (new : has_row (ys ++ zs) x.id ≡ false) (no_parent : is_parent (ys ++ zs) x.id ≡ false)
    (at : number_at (ys ++ zs) (length ys) ≡ Some root) (home : x.home ≡ Some h) (root_home : (get_or (ys ++ zs) (length ys) x).home ≡ Some h) where
  abbrev rows : List Row
  rows = ys ++ zs

  abbrev more : List Row
  more = ys ++ x ∷ zs

  apart' : AreDistinct more
  apart' = distinct_inserted x ys zs new apart

  root_at : number_at more (suc (length ys)) ≡ Some root
  root_at = next_place x ys zs ∙ at

  not_new : (u : ℕ) → has_row rows u ≡ true → u ≢ x.id
  not_new u there e = not_both (has_row rows u) there (ap (has_row rows) e ∙ new)

  a_row : (u : ℕ) → u ≢ x.id → has_row more u ≡ true → has_row rows u ≡ true
  a_row u ne there = sym (has_row-inserted ys zs x u ne) ∙ there

  root_is : root ≢ x.id
  root_is = not_new root (place_has rows root (length ys) at)

  parent : (p : ℕ) × (number_at rows p ≡ Some h.row) × (p < length ys) × (enclosing rows root ≡ h ∷ enclosing rows h.row)
  parent = around_home rows apart nested (length ys) root h x at root_home

  parent_at : number_at more parent.0 ≡ Some h.row
  parent_at = same_place x ys zs parent.0 parent.2 ∙ parent.1

  parent_is : h.row ≢ x.id
  parent_is = not_new h.row (place_has rows h.row parent.0 parent.1)

  -- the new row stands where the root stands
  same_around : enclosing more x.id ≡ enclosing rows root
  same_around =
      let fits = within more (length ys) x.id (new_place x ys zs) in
      let fits' = within more parent.0 h.row parent_at in
      ap (λ r. enclosing more r.id) (sym (new_row_at x x ys zs))
      ∙ (enclosed_at more (length ys) x apart' fits
      ∙ (outer_home more (length ys) parent.0 h x apart' fits (ap (λ r. r.home) (new_row_at x x ys zs) ∙ home) parent_at parent.2
      ∙ (ap (λ hs. h ∷ hs) (sym (enclosed_at more parent.0 x apart' fits') ∙ (ap (enclosing more) (read_at more parent.0 h.row x parent_at fits') ∙ enclosing-inserted ys zs x h.row no_parent parent_is))
      ∙ sym parent.3)))

  before_new : (d : ℕ) → is_earlier more d x.id ≡ true → is_earlier rows d root ≡ true
  before_new d e =
      let p = place_of more d (earlier_is_row more d x.id e) in
      let l = earlier_less more apart' p.0 (length ys) d x.id p.1 (new_place x ys zs) e in
      less_earlier rows apart p.0 (length ys) d root (sym (same_place x ys zs p.0 l) ∙ p.1) at l

  behind_new : (u : ℕ) → is_earlier more x.id u ≡ true → (u ≡ root) ⊎ (is_earlier rows root u ≡ true)
  behind_new u e =
      let p = place_of more u (later_is_row more x.id u e) in
      let l = earlier_less more apart' (length ys) p.0 x.id u (new_place x ys zs) p.1 e in
      by p.0 p.1 l where
        same : {a b : ℕ} → Some a ≡ Some b → a ≡ b
        same e = cc

        by : (p : ℕ) → number_at more p ≡ Some u → length ys < p → (u ≡ root) ⊎ (is_earlier rows root u ≡ true)
        by p is l = of (true_or_false (p == suc (length ys))) where
          of : ((p == suc (length ys)) ≡ true) ⊎ ((p == suc (length ys)) ≡ false) → (u ≡ root) ⊎ (is_earlier rows root u ≡ true)
          of (inl here) = inl (same (sym is ∙ (ap (number_at more) (eqb-true p (suc (length ys)) here) ∙ root_at)))
          of (inr there) =
              let far : suc (length ys) < p = grind (arith, nat_tests, there, l) in
              let other : u ≢ x.id = λ w. (let q = one_place more p (length ys) x.id apart' (is ∙ ap Some w) (new_place x ys zs) in omega (arith, q, l)) in
              inr (sym (is_earlier-inserted ys zs x root u root_is other) ∙ less_earlier more apart' (suc (length ys)) p root u root_at is far)

  never_itself : is_earlier more x.id x.id ≡ true → ⊥
  never_itself e = let l = earlier_less more apart' (length ys) (length ys) x.id x.id (new_place x ys zs) (new_place x ys zs) e in omega (arith, l)

  contains_none : (u : ℕ) → is_contained more u x.id ≡ true → ⊥
  contains_none u c = by (true_or_false (u == x.id)) where
    by : ((u == x.id) ≡ true) ⊎ ((u == x.id) ≡ false) → ⊥
    by (inl e) =
        not_both (is_contained more u x.id) c
        (ap (λ n. is_contained more n x.id) (eqb-true u x.id e) ∙ (ap (list_any (λ (k : Home). k.row == x.id)) same_around ∙ enclosing-new x.id rows root no_parent))
    by (inr n) =
        not_both (is_contained more u x.id) c
        (ap (list_any (λ (k : Home). k.row == x.id)) (enclosing-inserted ys zs x u no_parent (λ e. not_both (u == x.id) (eq-eqb u x.id e) n)) ∙ enclosing-new x.id rows u no_parent)

  differs : (u : ℕ) → (u == x.id) ≡ false → u ≢ x.id
  differs u n e = not_both (u == x.id) (eq-eqb u x.id e) n

  -- ---- nesting

  homes : All (λ r. IfSome r.home (IsEarlierRegion more r.id)) more
  homes = All-from_recursion (λ r. IfSome r.home (IsEarlierRegion more r.id)) more
      (with_one (λ r. IfSome r.home (IsEarlierRegion rows r.id)) (λ r. IfSome r.home (IsEarlierRegion more r.id)) old x (subst (λ o. IfSome o (IsEarlierRegion more x.id)) (sym home) its) ys zs
      (recursion_from_All (λ r. IfSome r.home (IsEarlierRegion rows r.id)) rows nested.homes)) where
        moved : (u : ℕ) (k : Home) → IsEarlierRegion rows u k → IsEarlierRegion more u k
        moved u k e =
            let a = not_new k.row (earlier_is_row rows k.row u e.0) in
            let b = not_new u (later_is_row rows k.row u e.0) in
            (is_earlier-inserted ys zs x k.row u a b ∙ e.0, subst (λ o. IfSome o (λ r. k.region < length r.regions)) (sym (row_of-inserted ys zs x k.row a)) e.1)

        old : (r : Row) → IfSome r.home (IsEarlierRegion rows r.id) → IfSome r.home (IsEarlierRegion more r.id)
        old r i = with_home r.home (IsEarlierRegion rows r.id) (IsEarlierRegion more r.id) (moved r.id) i

        of_root : IsEarlierRegion rows (get_or rows (length ys) x).id h
        of_root = subst (λ o. IfSome o (IsEarlierRegion rows (get_or rows (length ys) x).id)) root_home (nested.homes (length ys) x (within rows (length ys) root at))

        its : IsEarlierRegion more x.id h
        its = (
          less_earlier more apart' parent.0 (length ys) h.row x.id parent_at (new_place x ys zs) parent.2,
          subst (λ o. IfSome o (λ r. h.region < length r.regions)) (sym (row_of-inserted ys zs x h.row parent_is)) of_root.1,
        )

  contained_old : (u d : ℕ) → u ≢ x.id → is_contained more u d ≡ is_contained rows u d
  contained_old u d n = ap (list_any (λ (k : Home). k.row == d)) (enclosing-inserted ys zs x u no_parent n)

  contained_new : (d : ℕ) → is_contained more x.id d ≡ is_contained rows root d
  contained_new d = ap (list_any (λ (k : Home). k.row == d)) same_around

  together : (d between u : ℕ) → is_earlier more d between ≡ true → is_earlier more between u ≡ true → is_contained more u d ≡ true → is_contained more between d ≡ true
  together d between u p q c = by (true_or_false (d == x.id)) (true_or_false (between == x.id)) (true_or_false (u == x.id)) where
    by : ((d == x.id) ≡ true) ⊎ ((d == x.id) ≡ false) → ((between == x.id) ≡ true) ⊎ ((between == x.id) ≡ false) → ((u == x.id) ≡ true) ⊎ ((u == x.id) ≡ false) → is_contained more between d ≡ true
    by (inl e) b w = absurd (contains_none u (ap (is_contained more u) (sym (eqb-true d x.id e)) ∙ c))
    by (inr n) (inl e) (inl f) =
        absurd (never_itself ((λ i. is_earlier more (sym (eqb-true between x.id e) i) (sym (eqb-true u x.id f) i)) ∙ q))
    by (inr n) (inl e) (inr f) =
        let b : between ≡ x.id = eqb-true between x.id e in
        let p' = before_new d (ap (is_earlier more d) (sym b) ∙ p) in
        let c' : is_contained rows u d ≡ true = sym (contained_old u d (differs u f)) ∙ c in
        ap (λ k. is_contained more k d) b ∙ (contained_new d ∙ of (behind_new u (ap (λ k. is_earlier more k u) (sym b) ∙ q)) p' c') where
          of : (u ≡ root) ⊎ (is_earlier rows root u ≡ true) → is_earlier rows d root ≡ true → is_contained rows u d ≡ true → is_contained rows root d ≡ true
          of (inl e) p' c' = ap (λ k. is_contained rows k d) (sym e) ∙ c'
          of (inr l) p' c' = nested.together d root u p' l c'
    by (inr n) (inr e) (inl f) =
        let w : u ≡ x.id = eqb-true u x.id f in
        let q' = before_new between (ap (is_earlier more between) (sym w) ∙ q) in
        let c' : is_contained rows root d ≡ true = sym (contained_new d) ∙ (ap (λ k. is_contained more k d) (sym w) ∙ c) in
        contained_old between d (differs between e)
        ∙ nested.together d between root (sym (is_earlier-inserted ys zs x d between (differs d n) (differs between e)) ∙ p) q' c'
    by (inr n) (inr e) (inr f) =
        contained_old between d (differs between e)
        ∙ nested.together d between u (sym (is_earlier-inserted ys zs x d between (differs d n) (differs between e)) ∙ p)
        (sym (is_earlier-inserted ys zs x between u (differs between e) (differs u f)) ∙ q) (sym (contained_old u d (differs u f)) ∙ c)

  inside_old : (u d g : ℕ) → u ≢ x.id → is_inside more u (region rows apart nested d g) ≡ is_inside rows u (region rows apart nested d g)
  inside_old u d g n = ap (list_any (home_eq (region rows apart nested d g))) (enclosing-inserted ys zs x u no_parent n)

  inside_new : (d g : ℕ) → is_inside more x.id (region rows apart nested d g) ≡ is_inside rows root (region rows apart nested d g)
  inside_new d g = ap (list_any (home_eq (region rows apart nested d g))) same_around

  by_region : (d g k u v : ℕ) → is_inside more u (region rows apart nested d g) ≡ true → is_inside more v (region rows apart nested d k) ≡ true → is_earlier more u v ≡ true → g ≤ k
  by_region d g k u v p q e = by (true_or_false (u == x.id)) (true_or_false (v == x.id)) where
    by : ((u == x.id) ≡ true) ⊎ ((u == x.id) ≡ false) → ((v == x.id) ≡ true) ⊎ ((v == x.id) ≡ false) → g ≤ k
    by (inl a) (inl b) = absurd (never_itself ((λ i. is_earlier more (sym (eqb-true u x.id a) i) (sym (eqb-true v x.id b) i)) ∙ e))
    by (inl a) (inr b) =
        let w : u ≡ x.id = eqb-true u x.id a in
        let p' : is_inside rows root (region rows apart nested d g) ≡ true = sym (inside_new d g) ∙ (ap (λ n. is_inside more n (region rows apart nested d g)) (sym w) ∙ p) in
        let q' : is_inside rows v (region rows apart nested d k) ≡ true = sym (inside_old v d k (differs v b)) ∙ q in
        of (behind_new v (ap (λ n. is_earlier more n v) (sym w) ∙ e)) p' q' where
          of : (v ≡ root) ⊎ (is_earlier rows root v ≡ true) → is_inside rows root (region rows apart nested d g) ≡ true → is_inside rows v (region rows apart nested d k) ≡ true → g ≤ k
          of (inl s) p' q' =
              let same = one_region rows apart nested (suc (length ys)) (length ys) root d g k x (omega arith) at p' (ap (λ n. is_inside rows n (region rows apart nested d k)) (sym s) ∙ q') in
              omega (arith, same)
          of (inr l) p' q' = nested.by_region d g k root v p' q' l
    by (inr a) (inl b) =
        let w : v ≡ x.id = eqb-true v x.id b in
        nested.by_region d g k u root (sym (inside_old u d g (differs u a)) ∙ p)
        (sym (inside_new d k) ∙ (ap (λ n. is_inside more n (region rows apart nested d k)) (sym w) ∙ q)) (before_new u (ap (is_earlier more u) (sym w) ∙ e))
    by (inr a) (inr b) =
        nested.by_region d g k u v (sym (inside_old u d g (differs u a)) ∙ p) (sym (inside_old v d k (differs v b)) ∙ q)
        (sym (is_earlier-inserted ys zs x u v (differs u a) (differs v b)) ∙ e)

  pub nested_inserted : AreNested more
  nested_inserted = record { homes = homes; together = together; by_region = by_region }
