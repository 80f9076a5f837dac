-- Nested rows by their places in the list.
use Rattle.std.proofs.Common.{◌≡◌, ℕ, zero, suc, ◌+◌, ◌<◌, ◌≤◌, Bool, true, false, ◌&&◌, ◌||◌, cond, List, [], ◌∷◌, ◌++◌, map, reverse, length, take, drop, Option, Some, None, refl, sym, ap, subst, ◌∙◌, ◌⊎◌, inl, inr, arith, eq-eqb}
use Rattle.std.specs.Prelude.{◌==◌, nat_eq, slice_get, IfSome, get_or}
use Rattle.std.specs.Option.{option_map_or}
use Rattle.std.specs.List.{list_any, IsDistinct, AllByRecursion}
use Rattle.std.proofs.lemmas.Bool.{eqb-true, ne_eqb}
use Rattle.std.proofs.lemmas.Option.{none-some, same_Some, slice_get_within, get_or_from_slice_get}
use Rattle.std.proofs.lemmas.List.{reverse-append}
use Rattle.std.proofs.lemmas.List.Elements.{All-get_or}
use Rattle.std.proofs.lemmas.List.Folds.{list_any-append}
use Rattle.mlir_tree.specs.declared.row.Home.{Home}
use Rattle.mlir_tree.specs.declared.row.Row.{Row}
use Rattle.mlir_tree.specs.Module.{row_of, has_row, is_earlier, homes_around, enclosing, home_eq, is_inside, is_contained}
use Rattle.mlir_tree.specs.WellFormed.{AreDistinct, AreNested, IsEarlierRegion}
use Rattle.mlir_tree.proofs.Visibility.{reverse-cons, or_false}

-- ---- tests

pub true_or_false : (b : Bool) → (b ≡ true) ⊎ (b ≡ false)
true_or_false true = inl refl
true_or_false false = inr refl

pub either_true : (a b : Bool) → (a || b) ≡ true → (a ≡ true) ⊎ (b ≡ true)
either_true true b p = inl refl
either_true false b p = inr p

pub both_true : (a b : Bool) → (a && b) ≡ true → (a ≡ true) × (b ≡ true)
both_true true b p = (refl, p)
both_true false b p = absurd (cc)

pub second_true : (a b : Bool) → b ≡ true → (a || b) ≡ true
second_true true b p = refl
second_true false b p = p

pub true_false : {A : Type 0} (b : Bool) → b ≡ true → b ≡ false → A
true_false b p q = let no : true ≡ false = sym p ∙ q in absurd (cc)

-- ---- rows at places

abbrev pub IsAt : List Row → ℕ → Row → Type 0
IsAt rows i r = slice_get rows i ≡ Some r

pub nothing_at : (i : ℕ) (r : Row) → IsAt [] i r → ⊥
nothing_at i r p = none-some r p

pub apart_at : (n : ℕ) (rows : List Row) → AllByRecursion (λ y. nat_eq n y ≡ false) (map (λ r. r.id) rows) → (j : ℕ) (s : Row) → IsAt rows j s → (n == s.id) ≡ false
apart_at n [] apart j s p = absurd (nothing_at j s p)
apart_at n (y ∷ ys) apart zero s p = subst (λ (t : Row). (n == t.id) ≡ false) (same_Some y s p) apart.0
apart_at n (y ∷ ys) apart (suc j) s p = apart_at n ys apart.1 j s p

pub same_place : (rows : List Row) → AreDistinct rows → (i j : ℕ) (r s : Row) → IsAt rows i r → IsAt rows j s → r.id ≡ s.id → i ≡ j
unfolding IsDistinct
same_place [] apart i j r s p q e = absurd (nothing_at i r p)
same_place (x ∷ xs) apart zero zero r s p q e = refl
same_place (x ∷ xs) apart zero (suc j) r s p q e =
    true_false (x.id == s.id) (eq-eqb x.id s.id (ap (λ (t : Row). t.id) (same_Some x r p) ∙ e)) (apart_at x.id xs apart.0 j s q)
same_place (x ∷ xs) apart (suc i) zero r s p q e =
    true_false (x.id == r.id) (eq-eqb x.id r.id (ap (λ (t : Row). t.id) (same_Some x s q) ∙ sym e)) (apart_at x.id xs apart.0 i r p)
same_place (x ∷ xs) apart (suc i) (suc j) r s p q e = ap suc (same_place xs apart.1 i j r s p q e)

pub same_row : (rows : List Row) (i : ℕ) (r s : Row) → IsAt rows i r → IsAt rows i s → r ≡ s
same_row rows i r s p q = same_Some r s (sym p ∙ q)

pub has_row_at : (rows : List Row) (j : ℕ) (s : Row) → IsAt rows j s → has_row rows s.id ≡ true
has_row_at [] j s p = absurd (nothing_at j s p)
has_row_at (x ∷ xs) zero s p = ap (λ b. b || has_row xs s.id) (eq-eqb x.id s.id (ap (λ (t : Row). t.id) (same_Some x s p)))
has_row_at (x ∷ xs) (suc j) s p = second_true (x.id == s.id) (has_row xs s.id) (has_row_at xs j s p)

-- the place of a row
pub record PlaceOf (rows : List Row) (d : ℕ) : Type 0 where
  pub place : ℕ
  pub row : Row
  pub at : IsAt rows place row
  pub is : row.id ≡ d

pub place_by_has : (rows : List Row) (d : ℕ) → has_row rows d ≡ true → PlaceOf rows d
place_by_has [] d p = absurd (cc)
place_by_has (x ∷ xs) d p = elim (either_true (x.id == d) (has_row xs d) p) [
  | inl here ↦ record { place = 0; row = x; at = refl; is = eqb-true x.id d here }
  | inr there ↦ let more = place_by_has xs d there in record { place = suc more.place; row = more.row; at = more.at; is = more.is }
]

pub found_at : (rows : List Row) → AreDistinct rows → (i : ℕ) (r : Row) → IsAt rows i r → row_of rows r.id ≡ Some r
unfolding IsDistinct
found_at [] apart i r p = absurd (nothing_at i r p)
found_at (x ∷ xs) apart zero r p =
    (λ i. cond (eq-eqb x.id r.id (ap (λ (t : Row). t.id) (same_Some x r p)) i) (Some x) (row_of xs r.id)) ∙ p
found_at (x ∷ xs) apart (suc i) r p = (λ k. cond (apart_at x.id xs apart.0 i r p k) (Some x) (row_of xs r.id)) ∙ found_at xs apart.1 i r p

-- ---- earlier rows

pub earlier_at : (rows : List Row) (i j : ℕ) (r s : Row) → IsAt rows i r → IsAt rows j s → i < j → is_earlier rows r.id s.id ≡ true
earlier_at [] i j r s p q lt = absurd (nothing_at i r p)
earlier_at (x ∷ xs) i zero r s p q lt = absurd (omega (arith, lt))
earlier_at (x ∷ xs) zero (suc j) r s p q lt =
    λ k. (eq-eqb x.id r.id (ap (λ (t : Row). t.id) (same_Some x r p)) k && has_row_at xs j s q k) || is_earlier xs r.id s.id
earlier_at (x ∷ xs) (suc i) (suc j) r s p q lt = second_true ((x.id == r.id) && has_row xs s.id) (is_earlier xs r.id s.id) (earlier_at xs i j r s p q (omega (arith, lt)))

-- a row that stands earlier than the row at a place
pub record PlaceBefore (rows : List Row) (d j : ℕ) : Type 0 where
  pub place : ℕ
  pub row : Row
  pub at : IsAt rows place row
  pub is : row.id ≡ d
  pub before : place < j

pub place_by_earlier : (rows : List Row) → AreDistinct rows → (d j : ℕ) (s : Row) → IsAt rows j s → is_earlier rows d s.id ≡ true → PlaceBefore rows d j
unfolding IsDistinct
place_by_earlier [] apart d j s q p = absurd (cc)
place_by_earlier (x ∷ xs) apart d zero s q p = absurd (
    elim (either_true ((x.id == d) && has_row xs s.id) (is_earlier xs d s.id) p) [
      | inl here ↦ no_later (place_by_has xs s.id (both_true (x.id == d) (has_row xs s.id) here).1)
      | inr there ↦ no_later (place_by_has xs s.id (later_has xs d s.id there))
    ]
    )
  where
    no_later : PlaceOf xs s.id → ⊥
    no_later o = true_false (x.id == o.row.id) (eq-eqb x.id o.row.id (ap (λ (t : Row). t.id) (same_Some x s q) ∙ sym o.is)) (apart_at x.id xs apart.0 o.place o.row o.at)

    later_has : (rows : List Row) (d u : ℕ) → is_earlier rows d u ≡ true → has_row rows u ≡ true
    later_has [] d u p = absurd (cc)
    later_has (y ∷ ys) d u p = elim (either_true ((y.id == d) && has_row ys u) (is_earlier ys d u) p) [
      | inl here ↦ second_true (y.id == u) (has_row ys u) (both_true (y.id == d) (has_row ys u) here).1
      | inr there ↦ second_true (y.id == u) (has_row ys u) (later_has ys d u there)
    ]
place_by_earlier (x ∷ xs) apart d (suc j) s q p = elim (either_true ((x.id == d) && has_row xs s.id) (is_earlier xs d s.id) p) [
  | inl here ↦ record { place = 0; row = x; at = refl; is = eqb-true x.id d (both_true (x.id == d) (has_row xs s.id) here).0; before = omega arith }
  | inr there ↦
      let more = place_by_earlier xs apart.1 d j s q there in
      record { place = suc more.place; row = more.row; at = more.at; is = more.is; before = omega (arith, more.before) }
]

-- ---- the homes around a row

homes_behind : (ys zs : List Row) (u : ℕ) → has_row ys u ≡ false → homes_around (ys ++ zs) u ≡ homes_around zs u
homes_behind [] zs u p = refl
homes_behind (y ∷ ys) zs u p =
    let q = or_false (y.id == u) (has_row ys u) p in
    (λ i. cond (q.0 i) (option_map_or (λ h. h ∷ homes_around (ys ++ zs) h.row) y.home []) (homes_around (ys ++ zs) u)) ∙ homes_behind ys zs u q.1

has_row-reverse : (rows : List Row) (u : ℕ) → has_row (reverse rows) u ≡ has_row rows u
has_row-reverse [] u = refl
has_row-reverse (r ∷ rows) u =
    ap (λ l. has_row l u) (reverse-cons r rows)
    ∙ (list_any-append (λ s. s.id == u) (reverse rows) (r ∷ [])
    ∙ turned (has_row (reverse rows) u) (r.id == u) (has_row rows u) (has_row-reverse rows u))
  where
    turned : (a b c : Bool) → a ≡ c → (a || (b || false)) ≡ (b || c)
    turned true true c p = refl
    turned true false c p = p
    turned false true c p = refl
    turned false false c p = p

pub split_at : (rows : List Row) (j : ℕ) (s : Row) → IsAt rows j s → rows ≡ take j rows ++ s ∷ drop (suc j) rows
split_at [] j s p = absurd (nothing_at j s p)
split_at (x ∷ xs) zero s p = ap (λ (t : Row). t ∷ xs) (same_Some x s p)
split_at (x ∷ xs) (suc j) s p = ap (λ l. x ∷ l) (split_at xs j s p)

reverse_split : (ys zs : List Row) (s : Row) → reverse (ys ++ s ∷ zs) ≡ reverse zs ++ (s ∷ reverse ys)
reverse_split ys zs s = reverse-append ys (s ∷ zs) ∙ ((λ i. reverse-cons s zs i ++ reverse ys) ∙ glue (reverse zs) (reverse ys))
  where
    glue : (a b : List Row) → (a ++ s ∷ []) ++ b ≡ a ++ (s ∷ b)
    glue [] b = refl
    glue (x ∷ a) b = ap (λ l. x ∷ l) (glue a b)

pub at_drop : (n : ℕ) (rows : List Row) (k : ℕ) (t : Row) → IsAt (drop n rows) k t → IsAt rows (n + k) t
at_drop zero rows k t p = let e : k ≡ 0 + k = omega arith in subst (λ n. IsAt rows n t) e p
at_drop (suc n) [] k t p = absurd (nothing_at k t p)
at_drop (suc n) (x ∷ xs) k t p = let e : suc (n + k) ≡ suc n + k = omega arith in subst (λ i. IsAt (x ∷ xs) i t) e (at_drop n xs k t p)

-- no row behind place j has this number
pub none_behind : (rows : List Row) → AreDistinct rows → (m j : ℕ) (r : Row) → IsAt rows m r → m ≤ j → has_row (drop (suc j) rows) r.id ≡ false
none_behind rows apart m j r p le = elim (true_or_false (has_row (drop (suc j) rows) r.id)) [
  | inl some ↦
      let o = place_by_has (drop (suc j) rows) r.id some in
      let same = same_place rows apart m (suc j + o.place) r o.row p (at_drop (suc j) rows o.place o.row o.at) (sym o.is) in
      absurd (omega (arith, same, le))
  | inr none ↦ none
]

pub around_none : (rows : List Row) → AreDistinct rows → (j : ℕ) (s : Row) → IsAt rows j s → s.home ≡ None → enclosing rows s.id ≡ []
unfolding enclosing
around_none rows apart j s p none =
    let ys = take j rows in
    let zs = drop (suc j) rows in
    ap (λ l. homes_around (reverse l) s.id) (split_at rows j s p)
    ∙ (ap (λ l. homes_around l s.id) (reverse_split ys zs s)
    ∙ (homes_behind (reverse zs) (s ∷ reverse ys) s.id (has_row-reverse zs s.id ∙ none_behind rows apart j j s p (omega arith))
    ∙ ((λ i. cond (eq-eqb s.id s.id refl i) (option_map_or (λ h. h ∷ homes_around (reverse ys) h.row) s.home []) (homes_around (reverse ys) s.id))
    ∙ ap (λ o. option_map_or (λ h. h ∷ homes_around (reverse ys) h.row) o []) none)))

around_some : (rows : List Row) → AreDistinct rows → (m j : ℕ) (r s : Row) (h : Home) → IsAt rows m r → IsAt rows j s → m < j → s.home ≡ Some h → r.id ≡ h.row
    → enclosing rows s.id ≡ h ∷ enclosing rows r.id
unfolding enclosing
around_some rows apart m j r s h at_r at_s lt some is =
    let ys = take j rows in
    let zs = drop (suc j) rows in
    let turned : reverse rows ≡ reverse zs ++ (s ∷ reverse ys) = ap reverse (split_at rows j s at_s) ∙ reverse_split ys zs s in
    let outer : homes_around (reverse rows) s.id ≡ h ∷ homes_around (reverse ys) h.row
    = ap (λ l. homes_around l s.id) turned
    ∙ (homes_behind (reverse zs) (s ∷ reverse ys) s.id (has_row-reverse zs s.id ∙ none_behind rows apart j j s at_s (omega arith))
    ∙ ((λ i. cond (eq-eqb s.id s.id refl i) (option_map_or (λ h. h ∷ homes_around (reverse ys) h.row) s.home []) (homes_around (reverse ys) s.id))
    ∙ ap (λ o. option_map_or (λ h. h ∷ homes_around (reverse ys) h.row) o []) some)) in
    let other : (s.id == r.id) ≡ false = ne_eqb s.id r.id (λ e. absurd (omega (arith, lt, same_place rows apart j m s r at_s at_r e))) in
    let inner : homes_around (reverse rows) r.id ≡ homes_around (reverse ys) r.id
    = ap (λ l. homes_around l r.id) turned
    ∙ (homes_behind (reverse zs) (s ∷ reverse ys) r.id (has_row-reverse zs r.id ∙ none_behind rows apart m j r at_r (omega (arith, lt)))
    ∙ (λ i. cond (other i) (option_map_or (λ h. h ∷ homes_around (reverse ys) h.row) s.home []) (homes_around (reverse ys) r.id))) in
    outer ∙ ap (λ l. h ∷ l) (ap (homes_around (reverse ys)) (sym is) ∙ sym inner)

-- ---- homes in nested rows

-- the row in which a row stands
pub record HomeRow (rows : List Row) (j : ℕ) (h : Home) : Type 0 where
  pub place : ℕ
  pub row : Row
  pub at : IsAt rows place row
  pub is : row.id ≡ h.row
  pub before : place < j
  pub region : h.region < length row.regions

region_is : (h : Home) (r : Row) (o : Option Row) → o ≡ Some r → IfSome o (λ r. h.region < length r.regions) → h.region < length r.regions
region_is h r o e is = subst (λ o. IfSome o (λ r. h.region < length r.regions)) e is

pub home_row : (rows : List Row) → AreDistinct rows → AreNested rows → (j : ℕ) (s : Row) (h : Home) → IsAt rows j s → s.home ≡ Some h → HomeRow rows j h
home_row rows apart nested j s h at_s some =
    let all : IfSome (get_or rows j s).home (IsEarlierRegion rows (get_or rows j s).id)
    = All-get_or (λ r. IfSome r.home (IsEarlierRegion rows r.id)) rows j s (slice_get_within rows j s at_s) nested.homes in
    let here : IfSome s.home (IsEarlierRegion rows s.id) = subst (λ (t : Row). IfSome t.home (IsEarlierRegion rows t.id)) (get_or_from_slice_get rows j s s at_s) all in
    let is : IsEarlierRegion rows s.id h = subst (λ o. IfSome o (IsEarlierRegion rows s.id)) some here in
    let o = place_by_earlier rows apart h.row j s at_s is.0 in
    record {
      place = o.place;
      row = o.row;
      at = o.at;
      is = o.is;
      before = o.before;
      region = region_is h o.row (row_of rows h.row) (ap (row_of rows) (sym o.is) ∙ found_at rows apart o.place o.row o.at) is.1;
    }

-- the homes around a row: its home, and those around the row of that home
pub around_home : (rows : List Row) → AreDistinct rows → (j : ℕ) (s : Row) (h : Home) → IsAt rows j s → s.home ≡ Some h → (o : HomeRow rows j h) → enclosing rows s.id ≡ h ∷ enclosing rows o.row.id
around_home rows apart j s h at_s some o = around_some rows apart o.place j o.row s h o.at at_s o.before some o.is

pub stands_inside : (rows : List Row) → AreDistinct rows → AreNested rows → (j : ℕ) (s : Row) (h : Home) → IsAt rows j s → s.home ≡ Some h → is_inside rows s.id h ≡ true
stands_inside rows apart nested j s h at_s some =
    ap (list_any (home_eq h)) (around_home rows apart j s h at_s some (home_row rows apart nested j s h at_s some))
    ∙ (λ i. (eq-eqb h.row h.row refl i && eq-eqb h.region h.region refl i) || list_any (home_eq h) (enclosing rows (home_row rows apart nested j s h at_s some).row.id))

pub stands_contained : (rows : List Row) → AreDistinct rows → AreNested rows → (j : ℕ) (s : Row) (h : Home) → IsAt rows j s → s.home ≡ Some h → is_contained rows s.id h.row ≡ true
stands_contained rows apart nested j s h at_s some =
    ap (list_any (λ k. k.row == h.row)) (around_home rows apart j s h at_s some (home_row rows apart nested j s h at_s some))
    ∙ (λ i. eq-eqb h.row h.row refl i || list_any (λ k. k.row == h.row) (enclosing rows (home_row rows apart nested j s h at_s some).row.id))

-- a row that is contained in another has a home, and its home's row is the other or is contained in it too
pub record Containing (rows : List Row) (j d : ℕ) (s : Row) : Type 0 where
  pub home : Home
  pub some : s.home ≡ Some home
  pub outer : HomeRow rows j home
  pub which : (home.row ≡ d) ⊎ (is_contained rows outer.row.id d ≡ true)

pub containing : (rows : List Row) → AreDistinct rows → AreNested rows → (j d : ℕ) (s : Row) → IsAt rows j s → is_contained rows s.id d ≡ true → Containing rows j d s
containing rows apart nested j d s at_s inside = by_home s.home refl
  where
    by_home : (o : Option Home) → s.home ≡ o → Containing rows j d s
    by_home None none = let no : false ≡ true = sym (ap (list_any (λ k. k.row == d)) (around_none rows apart j s at_s none)) ∙ inside in absurd (cc)
    by_home (Some h) some =
        let outer = home_row rows apart nested j s h at_s some in
        let test = sym (ap (list_any (λ k. k.row == d)) (around_home rows apart j s h at_s some outer)) ∙ inside in
        record {
          home = h;
          some = some;
          outer = outer;
          which = elim (either_true (h.row == d) (is_contained rows outer.row.id d) test) [ inl here ↦ inl (eqb-true h.row d here) | inr there ↦ inr there ];
        }

-- a row stands behind each row that contains it
pub contained_later : (n : ℕ) (rows : List Row) → AreDistinct rows → AreNested rows → (i j : ℕ) (r s : Row) → j < n → IsAt rows i r → IsAt rows j s → is_contained rows s.id r.id ≡ true → i < j
contained_later zero rows apart nested i j r s lt at_r at_s inside = absurd (omega (arith, lt))
contained_later (suc n) rows apart nested i j r s lt at_r at_s inside =
    let c = containing rows apart nested j r.id s at_s inside in
    elim c.which [
      | inl here ↦ omega (arith, c.outer.before, same_place rows apart c.outer.place i c.outer.row r c.outer.at at_r (c.outer.is ∙ here))
      | inr there ↦ omega (arith, c.outer.before, contained_later n rows apart nested i c.outer.place r c.outer.row (omega (arith, lt, c.outer.before)) at_r c.outer.at there)
    ]
