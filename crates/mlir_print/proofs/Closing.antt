-- Where rows and regions end, in nested rows that are passed one behind another.
use Rattle.std.proofs.Common.{◌≡◌, ◌≢◌, ℕ, suc, ◌+◌, ◌<◌, ◌≤◌, true, false, ◌&&◌, List, length, Option, Some, None, refl, sym, ap, subst, ◌∙◌, inl, inr, arith, eq-eqb}
use Rattle.std.specs.Prelude.{◌==◌, nat_lt, slice_get, get_or}
use Rattle.std.specs.Option.{option_map_or}
use Rattle.std.proofs.lemmas.Bool.{eqb-true}
use Rattle.std.proofs.lemmas.Bool.Decides.{nat_tests}
use Rattle.std.proofs.lemmas.Option.{same_Some, slice_get_within, slice_get-get_or}
use Rattle.mlir_tree.specs.declared.row.Home.{Home}
use Rattle.mlir_tree.specs.declared.row.Row.{Row}
use Rattle.mlir_tree.specs.Module.{home_eq, is_inside, is_contained}
use Rattle.mlir_tree.specs.WellFormed.{AreDistinct, AreNested}
use Rattle.mlir_print.specs.ModuleText.{stands_in, region_of}
use Rattle.mlir_print.specs.Cursor.{stands_at, NoneStand, IsBehind, IsOpen, AreInside, AreEarlier, EndsRow}
use Rattle.mlir_tree.proofs.Places.{true_or_false, both_true, true_false, IsAt, same_place, same_row, earlier_at, home_row, stands_inside, stands_contained, containing, contained_later}

-- ---- rows that stand in a region

home_is : (h k : Home) → home_eq h k ≡ true → h ≡ k
home_is h k p = let q = both_true (h.row == k.row) (h.region == k.region) p in λ i. record { row = eqb-true h.row k.row q.0 i; region = eqb-true h.region k.region q.1 i }

pub home_itself : (h : Home) → home_eq h h ≡ true
home_itself h = λ i. eq-eqb h.row h.row refl i && eq-eqb h.region h.region refl i

pub record Standing (rows : List Row) (at : ℕ) (h : Home) : Type 0 where
  pub row : Row
  pub there : IsAt rows at row
  pub home : row.home ≡ Some h

pub standing : (rows : List Row) (at : ℕ) (h : Home) → stands_at rows at h ≡ true → Standing rows at h
standing rows at h p = by_row (slice_get rows at) refl p
  where
    by_home : (s : Row) (o : Option Home) → s.home ≡ o → option_map_or (home_eq h) o false ≡ true → s.home ≡ Some h
    by_home s None e q = absurd (cc)
    by_home s (Some k) e q = e ∙ ap (λ x. Some x) (sym (home_is h k q))

    by_row : (o : Option Row) → slice_get rows at ≡ o → option_map_or (stands_in h) o false ≡ true → Standing rows at h
    by_row None e q = absurd (cc)
    by_row (Some s) e q = record { row = s; there = e; home = by_home s s.home refl q }

pub stands_there : (rows : List Row) (j : ℕ) (s : Row) (h : Home) → IsAt rows j s → s.home ≡ Some h → stands_at rows j h ≡ true
stands_there rows j s h at_s some =
    ap (λ o. option_map_or (stands_in h) o false) at_s ∙ (ap (λ o. option_map_or (home_eq h) o false) some ∙ home_itself h)

one_home : (rows : List Row) (j : ℕ) (h k : Home) → stands_at rows j h ≡ true → stands_at rows j k ≡ true → h ≡ k
one_home rows j h k p q =
    let a = standing rows j h p in
    let b = standing rows j k q in
    same_Some h k (sym a.home ∙ (ap (λ (t : Row). t.home) (same_row rows j a.row b.row a.there b.there) ∙ b.home))

-- ---- the end of a region

-- where the next row stands elsewhere, no later one stands in the region
no_more : (rows : List Row) → AreDistinct rows → AreNested rows → (i g cur j : ℕ) (r s : Row) (h : Home) → IsAt rows i r → i < cur → IsOpen rows i g cur
    → stands_at rows cur (region_of r g) ≡ false → IsAt rows j s → s.home ≡ Some h → cur ≤ j → h ≡ region_of r g → ⊥
no_more rows apart nested i g cur j r s h at_r lt opened none at_s some le is =
    elim (true_or_false (j == cur)) [
      | inl here ↦ true_false (stands_at rows cur (region_of r g))
          (subst (λ n. stands_at rows n (region_of r g) ≡ true) (eqb-true j cur here) (subst (λ k. stands_at rows j k ≡ true) is (stands_there rows j s h at_s some))) none
      | inr later ↦ deeper (grind (arith, nat_tests, le, later))
    ]
  where
    w : Row
    w = get_or rows cur s

    deeper : cur < j → ⊥
    deeper less =
        let at_w : IsAt rows cur w = slice_get-get_or rows cur s (omega (arith, less, slice_get_within rows j s at_s)) in
        let second = earlier_at rows cur j w s at_w at_s less in
        let inside : is_contained rows s.id r.id ≡ true = subst (λ (k : Home). is_contained rows s.id k.row ≡ true) is (stands_contained rows apart nested j s h at_s some) in
        let c = containing rows apart nested cur r.id w at_w (nested.together r.id w.id s.id (earlier_at rows i cur r w at_r at_w lt) second inside) in
        elim c.which [
          | inl here ↦
              let o = opened i cur r w c.home at_r at_w c.some (omega arith) lt (omega arith) here in
              let in_w : is_inside rows w.id (record { row = r.id; region = c.home.region }) ≡ true
              = subst (λ d. is_inside rows w.id (record { row = d; region = c.home.region }) ≡ true) here (stands_inside rows apart nested cur w c.home at_w c.some) in
              let in_s : is_inside rows s.id (record { row = r.id; region = g }) ≡ true = subst (λ (k : Home). is_inside rows s.id k ≡ true) is (stands_inside rows apart nested j s h at_s some) in
              let below = nested.by_region r.id c.home.region g w.id s.id in_w in_s second in
              let same : c.home ≡ region_of r g = let e : c.home.region ≡ g = omega (arith, below, o.1) in λ k. record { row = here k; region = e k } in
              true_false (stands_at rows cur (region_of r g)) (subst (λ k. stands_at rows cur k ≡ true) same (stands_there rows cur w c.home at_w c.some)) none
          | inr there ↦
              let between = contained_later (suc c.outer.place) rows apart nested i c.outer.place r c.outer.row (omega arith) at_r c.outer.at there in
              let o = opened c.outer.place cur c.outer.row w c.home c.outer.at at_w c.some (omega (arith, between)) c.outer.before (omega arith) (sym c.outer.is) in
              absurd (omega (arith, between, o.0))
        ]

pub close_region : (rows : List Row) → AreDistinct rows → AreNested rows → (i g cur : ℕ) (r : Row) → IsAt rows i r → i < cur → IsOpen rows i g cur
    → stands_at rows cur (region_of r g) ≡ false → IsOpen rows i (g + 1) cur
close_region rows apart nested i g cur r at_r lt opened none m j r' s h p q some from to behind is =
    let o = opened m j r' s h p q some from to behind is in (
      o.0,
      elim (true_or_false (h.region == g)) [
        | inl same ↦
            let owner : r'.id ≡ r.id = ap (λ (t : Row). t.id) (same_row rows i r' r (subst (λ n. IsAt rows n r') o.0 p) at_r) in
            absurd (no_more rows apart nested i g cur j r s h at_r lt opened none q some behind (λ k. record { row = (is ∙ owner) k; region = eqb-true h.region g same k }))
        | inr other ↦ grind (arith, nat_tests, other, o.1)
      ],
    )

-- no row from here on stands in a region that ended
pub none_left : (rows : List Row) (i g cur : ℕ) (r : Row) → IsAt rows i r → i < cur → IsOpen rows i (g + 1) cur → (j : ℕ) → cur ≤ j → stands_at rows j (region_of r g) ≡ false
none_left rows i g cur r at_r lt opened j le = elim (true_or_false (stands_at rows j (region_of r g))) [
  | inl stands ↦
      let s = standing rows j (region_of r g) stands in
      absurd (omega (arith, (opened i j r s.row (region_of r g) at_r s.there s.home (omega arith) lt le refl).1))
  | inr none ↦ none
]

-- ---- the end of a row

pub open_at : (rows : List Row) (i : ℕ) → IsOpen rows i 0 (i + 1)
open_at rows i m j r s h p q some from to behind is = (omega (arith, from, to), omega arith)

pub close_row : (rows : List Row) → AreDistinct rows → AreNested rows → (i cur : ℕ) (r : Row) → IsAt rows i r → IsOpen rows i (length r.regions) cur → IsBehind rows i cur
close_row rows apart nested i cur r at_r opened m j r' s h p q some from to behind is =
    let o = opened m j r' s h p q some from to behind is in
    let home = home_row rows apart nested j s h q some in
    let place : home.place ≡ m = same_place rows apart home.place m home.row r' home.at p (home.is ∙ is) in
    let row : home.row ≡ r = same_row rows i home.row r (subst (λ n. IsAt rows n home.row) (place ∙ o.0) home.at) at_r in
    let few : h.region < length r.regions = subst (λ (t : Row). h.region < length t.regions) row home.region in
    absurd (omega (arith, few, o.1))

-- a row was passed
pub open_behind : (rows : List Row) (i g cur to : ℕ) → IsOpen rows i g cur → EndsRow rows cur to → IsOpen rows i g to
open_behind rows i g cur to opened ends m j r s h p q some from before behind is = elim (true_or_false (nat_lt m cur)) [
  | inl lower ↦ opened m j r s h p q some from (grind (arith, nat_tests, lower)) (omega (arith, behind, ends.later)) is
  | inr upper ↦ absurd (ends.behind m j r s h p q some (grind (arith, nat_tests, upper)) before behind is)
]

-- ---- regions in which none of the rows stand that were passed

pub none_yet : (rows : List Row) (h : Home) (from : ℕ) → NoneStand rows h from from
none_yet rows h from j le lt = absurd (omega (arith, le, lt))

pub none_further : (rows : List Row) (h : Home) (from mid to : ℕ) → NoneStand rows h from mid → NoneStand rows h mid to → NoneStand rows h from to
none_further rows h from mid to first second j le lt = elim (true_or_false (nat_lt j mid)) [
  | inl lower ↦ first j le (grind (arith, nat_tests, lower))
  | inr upper ↦ second j (grind (arith, nat_tests, upper)) lt
]

none_row : (rows : List Row) (h k : Home) (from cur to : ℕ) → stands_at rows cur k ≡ true → h ≢ k → NoneStand rows h from cur → NoneStand rows h (cur + 1) to → NoneStand rows h from to
none_row rows h k from cur to here other first second =
    none_further rows h from cur to first (λ j le lt. elim (true_or_false (j == cur)) [
      | inl same ↦ elim (true_or_false (stands_at rows j h)) [
        | inl stands ↦ absurd (other (one_home rows cur h k (subst (λ n. stands_at rows n h ≡ true) (eqb-true j cur same) stands) here))
        | inr none ↦ none
      ]
      | inr differ ↦ second j (grind (arith, nat_tests, le, differ)) lt
    ])

pub inside_behind : (rows : List Row) → AreDistinct rows → (i g from cur to : ℕ) (r : Row) → IsAt rows i r → i < cur → stands_at rows cur (region_of r g) ≡ true
    → AreInside rows i from cur → EndsRow rows cur to → AreInside rows i from to
inside_behind rows apart i g from cur to r at_r lt here inside ends m r' k p less =
    none_row rows (region_of r' k) (region_of r g) from cur to here
    (λ e. absurd (omega (arith, less, same_place rows apart m i r' r p at_r (ap (λ (h : Home). h.row) e))))
    (inside m r' k p less) (ends.inside m r' k p (omega (arith, less, lt)))

pub earlier_behind : (rows : List Row) (i g from cur to : ℕ) (r : Row) → IsAt rows i r → i < cur → stands_at rows cur (region_of r g) ≡ true
    → AreEarlier rows i (g + 1) from cur → EndsRow rows cur to → AreEarlier rows i (g + 1) from to
earlier_behind rows i g from cur to r at_r lt here earlier ends r' k p more =
    none_row rows (region_of r' k) (region_of r g) from cur to here
    (λ e. absurd (omega (arith, more, ap (λ (h : Home). h.region) e)))
    (earlier r' k p more) (ends.inside i r' k p lt)

pub inside_further : (rows : List Row) (i from mid to : ℕ) → AreInside rows i from mid → AreInside rows i mid to → AreInside rows i from to
inside_further rows i from mid to first second m r g p less = none_further rows (region_of r g) from mid to (first m r g p less) (second m r g p less)

pub earlier_further : (rows : List Row) (i g from mid to : ℕ) → AreEarlier rows i g from mid → AreEarlier rows i (g + 1) mid to → AreEarlier rows i (g + 1) from to
earlier_further rows i g from mid to first second r k p more =
    none_further rows (region_of r k) from mid to (first r k p (omega (arith, more))) (second r k p more)
