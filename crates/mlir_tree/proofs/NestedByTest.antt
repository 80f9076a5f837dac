-- A test that computes whether rows are nested, for rows that are written out.
use Rattle.std.proofs.Common.{◌≡◌, ◌<◌, ◌≤◌, ℕ, Bool, true, false, not, ◌&&◌, ◌||◌, List, [], ◌∷◌, length, Option, Some, None, refl, sym, subst, ◌∙◌, ◌⊎◌, inl, inr, arith}
use Rattle.std.specs.Prelude.{◌==◌, nat_lt, nat_le, IfSome, IsTrue}
use Rattle.std.specs.Option.{option_map_or}
use Rattle.std.specs.List.{list_any, list_all, AllByRecursion}
use Rattle.std.proofs.lemmas.Bool.{eqb-true}
use Rattle.std.proofs.lemmas.Bool.Decides.{nat_tests}
use Rattle.std.proofs.lemmas.List.Elements.{All-from_recursion}
use Rattle.mlir_tree.specs.declared.row.Home.{Home}
use Rattle.mlir_tree.specs.declared.row.Row.{Row}
use Rattle.mlir_tree.specs.Module.{row_of, has_row, is_earlier, enclosing, home_eq, is_inside, is_contained}
use Rattle.mlir_tree.specs.WellFormed.{IsEarlierRegion, AreNested}
use Rattle.mlir_tree.proofs.Nesting.{earlier_is_row}

abbrev pub has_home : List Row → Row → Bool
has_home rows r =
    option_map_or (λ h. is_earlier rows h.row r.id && option_map_or (λ p. nat_lt h.region (length p.regions)) (row_of rows h.row) false) r.home true

abbrev pub is_together : List Row → Row → Row → Row → Bool
is_together rows d between u =
    not (is_earlier rows d.id between.id && (is_earlier rows between.id u.id && is_contained rows u.id d.id)) || is_contained rows between.id d.id

abbrev pub is_before_in : Home → Home → Bool
is_before_in h k = not (h.row == k.row) || nat_le h.region k.region

abbrev pub is_by_region : List Row → Row → Row → Bool
is_by_region rows u v = not (is_earlier rows u.id v.id) || list_all (λ h. list_all (is_before_in h) (enclosing rows v.id)) (enclosing rows u.id)

abbrev pub is_nested : List Row → Bool
is_nested rows =
    list_all (has_home rows) rows
    && (list_all (λ d. list_all (λ between. list_all (is_together rows d between) rows) rows) rows
    && list_all (λ u. list_all (is_by_region rows u) rows) rows)

both_true : (a b : Bool) → (a && b) ≡ true → (a ≡ true) × (b ≡ true)
both_true true b p = (refl, p)
both_true false b p = absurd (cc)

implied : (a b : Bool) → (not a || b) ≡ true → a ≡ true → b ≡ true
implied true b p q = p
implied false b p q = absurd (cc)

three : (a b c : Bool) → a ≡ true → b ≡ true → c ≡ true → (a && (b && c)) ≡ true
three a b c p q r = λ i. p i && (q i && r i)

true_or_false : (b : Bool) → (b ≡ true) ⊎ (b ≡ false)
true_or_false true = inl refl
true_or_false false = inr refl

-- what a test of each row says of a number that a row has
at_row : (p : Row → Bool) (P : ℕ → Type 0) → ((r : Row) → p r ≡ true → P r.id) → (rows : List Row) → list_all p rows ≡ true → (u : ℕ) → has_row rows u ≡ true → P u
at_row p P says [] all u there = absurd (cc)
at_row p P says (r ∷ rows) all u there =
    let q = both_true (p r) (list_all p rows) all in
    elim (true_or_false (r.id == u)) [
      | inl here ↦ subst P (eqb-true r.id u here) (says r q.0)
      | inr other ↦ at_row p P says rows q.1 u ((λ i. sym other i || has_row rows u) ∙ there)
    ]

-- a home that is in the list passes what each home passes
at_home : (p q : Home → Bool) (homes : List Home) → list_any q homes ≡ true → list_all p homes ≡ true → (h : Home) × (q h ≡ true) × (p h ≡ true)
at_home p q [] some all = absurd (cc)
at_home p q (h ∷ homes) some all =
    let r = both_true (p h) (list_all p homes) all in
    elim (true_or_false (q h)) [
      | inl here ↦ (h, here, r.0)
      | inr other ↦ at_home p q homes ((λ i. sym other i || list_any q homes) ∙ some) r.1
    ]

later_is_row : (rows : List Row) (d u : ℕ) → is_earlier rows d u ≡ true → has_row rows u ≡ true
later_is_row [] d u p = absurd (cc)
later_is_row (r ∷ rows) d u p = behind (r.id == d) (has_row rows u) (is_earlier rows d u) (r.id == u) (later_is_row rows d u) p
  where
    behind : (here after earlier there : Bool) → (earlier ≡ true → after ≡ true) → ((here && after) || earlier) ≡ true → (there || after) ≡ true
    behind here true earlier true later q = refl
    behind here true earlier false later q = refl
    behind here false earlier true later q = refl
    behind true false earlier false later q = later q
    behind false false earlier false later q = later q

home_there : (rows : List Row) (u : ℕ) (h : Home) (o : Option Row)
    → option_map_or (λ p. nat_lt h.region (length p.regions)) o false ≡ true → IfSome o (λ r. h.region < length r.regions)
home_there rows u h None p = tt
home_there rows u h (Some r) p = grind (arith, nat_tests)

home_is : (rows : List Row) (u : ℕ) (o : Option Home)
    → option_map_or (λ h. is_earlier rows h.row u && option_map_or (λ p. nat_lt h.region (length p.regions)) (row_of rows h.row) false) o true ≡ true
    → IfSome o (IsEarlierRegion rows u)
home_is rows u None p = tt
home_is rows u (Some h) p =
    let q = both_true (is_earlier rows h.row u) (option_map_or (λ p. nat_lt h.region (length p.regions)) (row_of rows h.row) false) p in
    (q.0, home_there rows u h (row_of rows h.row) q.1)

homes_are : (rows all : List Row) → list_all (has_home all) rows ≡ true → AllByRecursion (λ r. IfSome r.home (IsEarlierRegion all r.id)) rows
homes_are [] all p = tt
homes_are (r ∷ rows) all p = let q = both_true (has_home all r) (list_all (has_home all) rows) p in (home_is all r.id r.home q.0, homes_are rows all q.1)

region_below : (d g k : ℕ) (h j : Home) → home_eq (record { row = d; region = g }) h ≡ true → home_eq (record { row = d; region = k }) j ≡ true → is_before_in h j ≡ true → g ≤ k
region_below d g k h j p q r =
    let a = both_true (d == h.row) (g == h.region) p in
    let b = both_true (d == j.row) (k == j.region) q in
    let same : (h.row == j.row) ≡ true = (λ i. sym (eqb-true d h.row a.0) i == sym (eqb-true d j.row b.0) i) ∙ a_row in
    let below : nat_le h.region j.region ≡ true = implied (h.row == j.row) (nat_le h.region j.region) r same in
    grind (arith, nat_tests, eqb-true g h.region a.1, eqb-true k j.region b.1, below)
  where
    a_row : (d == d) ≡ true
    a_row = grind (arith, nat_tests)

pub nested_by_test : (rows : List Row) → is_nested rows ≡ true → AreNested rows
nested_by_test rows p =
    let q = both_true (list_all (has_home rows) rows) (list_all (λ d. list_all (λ between. list_all (is_together rows d between) rows) rows) rows && list_all (λ u. list_all (is_by_region rows u) rows) rows) p in
    let s = both_true (list_all (λ d. list_all (λ between. list_all (is_together rows d between) rows) rows) rows) (list_all (λ u. list_all (is_by_region rows u) rows) rows) q.1 in
    record {
      homes = All-from_recursion (λ r. IfSome r.home (IsEarlierRegion rows r.id)) rows (homes_are rows rows q.0);
      together = λ d between u first second inside.
          at_row (λ d'. list_all (λ b'. list_all (is_together rows d' b') rows) rows)
          (λ n. IsTrue (is_earlier rows n between) → IsTrue (is_contained rows u n) → IsTrue (is_contained rows between n))
          (λ d' all' first' inside'.
          at_row (λ b'. list_all (is_together rows d' b') rows)
          (λ n. IsTrue (is_earlier rows d'.id n) → IsTrue (is_earlier rows n u) → IsTrue (is_contained rows n d'.id))
          (λ b' all'' first'' second''.
          at_row (is_together rows d' b')
          (λ n. IsTrue (is_earlier rows b'.id n) → IsTrue (is_contained rows n d'.id) → IsTrue (is_contained rows b'.id d'.id))
          (λ u' holds second''' inside'''.
          implied (is_earlier rows d'.id b'.id && (is_earlier rows b'.id u'.id && is_contained rows u'.id d'.id)) (is_contained rows b'.id d'.id) holds
          (three (is_earlier rows d'.id b'.id) (is_earlier rows b'.id u'.id) (is_contained rows u'.id d'.id) first'' second''' inside'''))
          rows all'' u (later_is_row rows b'.id u second'') second'' inside')
          rows all' between (later_is_row rows d'.id between first') first' second)
          rows s.0 d (earlier_is_row rows d between first) first inside;
      by_region = λ d g k u v in_g in_k order.
          at_row (λ u'. list_all (is_by_region rows u') rows)
          (λ n. IsTrue (is_inside rows n (record { row = d; region = g })) → IsTrue (is_earlier rows n v) → g ≤ k)
          (λ u' all' in_g' order'.
          at_row (is_by_region rows u')
          (λ n. IsTrue (is_inside rows n (record { row = d; region = k })) → IsTrue (is_earlier rows u'.id n) → g ≤ k)
          (λ v' holds in_k'' order''.
          let all'' = implied (is_earlier rows u'.id v'.id) (list_all (λ h. list_all (is_before_in h) (enclosing rows v'.id)) (enclosing rows u'.id)) holds order'' in
          let h = at_home (λ h. list_all (is_before_in h) (enclosing rows v'.id)) (home_eq (record { row = d; region = g })) (enclosing rows u'.id) in_g' all'' in
          let j = at_home (is_before_in h.0) (home_eq (record { row = d; region = k })) (enclosing rows v'.id) in_k'' h.2 in
          region_below d g k h.0 j.0 h.1 j.1 j.2)
          rows all' v (later_is_row rows u'.id v order') in_k order')
          rows s.1 u (earlier_is_row rows u v order) in_g order;
    }
