-- What is visible at a row is in sight at its operation.
use Rattle.std.proofs.Common.{◌≡◌, ℕ, zero, suc, ◌+◌, ◌<◌, Bool, true, false, cond, not, ◌&&◌, ◌||◌, List, [], ◌∷◌, map, refl, ap, sym, subst, ◌∙◌, arith, inl, inr, Option, Some, None, eqb-true, eq-eqb}
use Rattle.std.specs.Prelude.{slice_get, unwrap_or, ◌==◌}
use Rattle.std.specs.Option.{option_map, option_map_or, option_and_then}
use Rattle.std.specs.List.{AllByRecursion, list_any}
use Rattle.std.proofs.lemmas.Bool.{and_parts}
use Rattle.std.proofs.lemmas.Option.{none-some, same_Some, slice_get-map}
use Rattle.mlir_tree.specs.declared.row.Home.{Home}
use Rattle.mlir_tree.specs.declared.row.Row.{Row}
use Rattle.mlir_tree.specs.declared.value.Val.{Val}
use Rattle.mlir_tree.specs.declared.value.Val.TheVariants.{Res, Arg}
use Rattle.mlir_tree.specs.Module.{is_earlier, home_of, enclosing, home_eq, is_inside, is_contained, is_value, is_in_scope, is_visible, IsVisible}
use Rattle.mlir_tree.specs.WellFormed.{AreDistinct, AreNested, BeginsWithModule}
use Rattle.mlir_print.specs.Numbering.{place_of}
use Rattle.mlir_tree.proofs.Places.{either_true, second_true, IsAt, nothing_at, found_at, earlier_at, place_by_earlier, HomeRow, home_row, around_home}
use Rattle.mlir_resolve.specs.Laid.{Laid, row_with, bare_rows}
use Rattle.mlir_resolve.specs.Sight.{is_of_region}
use Rattle.round_trip.specs.Renumbering.{new_number, new_home, new_value}
use Rattle.round_trip.proofs.Laying.{place_at, number_at, IsLaidAs, ArePairs, pair_at}
use Rattle.round_trip.proofs.Files.{outermost, has_home, some_home}

-- ---- lists

any_map : {X Y : Type 0} (f : X → Y) (p : X → Bool) (q : Y → Bool) (xs : List X) → ((x : X) → p x ≡ true → q (f x) ≡ true) → list_any p xs ≡ true → list_any q (map f xs) ≡ true
any_map f p q [] up h = absurd (cc)
any_map f p q (x ∷ xs) up h = elim (either_true (p x) (list_any p xs) h) [
  | inl here ↦ ap (λ b. b || list_any q (map f xs)) (up x here)
  | inr more ↦ second_true (q (f x)) (list_any q (map f xs)) (any_map f p q xs up more)
]

neither : (a b : Bool) → (a || b) ≡ false → (a ≡ false) × (b ≡ false)
neither true b h = absurd (cc)
neither false b h = (refl, h)

not_so : (b : Bool) → (b ≡ true → ⊥) → b ≡ false
not_so true h = absurd (h refl)
not_so false h = refl

none_map : {X Y : Type 0} (f : X → Y) (Known : X → Type 0) (p : X → Bool) (q : Y → Bool) (xs : List X) → AllByRecursion Known xs → ((x : X) → Known x → q (f x) ≡ true → p x ≡ true) → list_any p xs ≡ false → list_any q (map f xs) ≡ false
none_map f Known p q [] known down h = refl
none_map f Known p q (x ∷ xs) known down h =
    let parts = neither (p x) (list_any p xs) h in
    let here : q (f x) ≡ false = not_so (q (f x)) (λ is. let e : true ≡ false = sym (down x known.0 is) ∙ parts.0 in absurd (cc)) in
    ap (λ b. b || list_any q (map f xs)) here ∙ none_map f Known p q xs known.1 down parts.1

-- ---- rows

suc_of : (o : Option ℕ) (p : ℕ) → option_map suc o ≡ Some p → (n : ℕ) × (o ≡ Some n) × (p ≡ suc n)
suc_of None p h = absurd (none-some p h)
suc_of (Some n) p h = (n, refl, sym (same_Some (suc n) p h))

place_by : (x : Row) (rows : List Row) (d p : ℕ) (q : Row) (b : Bool) → x.id == d ≡ b → ((n : ℕ) → place_of rows d ≡ Some n → IsAt rows n q → q.id ≡ d) → cond b (Some 0) (option_map suc (place_of rows d)) ≡ Some p → IsAt (x ∷ rows) p q → q.id ≡ d
place_by x rows d p q true is go h at_q =
    let zero_is : 0 ≡ p = same_Some 0 p h in
    let same : x ≡ q = same_Some x q (subst (λ n. slice_get (x ∷ rows) n ≡ Some q) (sym zero_is) at_q) in
    ap (λ (r : Row). r.id) (sym same) ∙ eqb-true x.id d is
place_by x rows d p q false is go h at_q =
    let (n, there, next) = suc_of (place_of rows d) p h in
    go n there (subst (λ m. slice_get (x ∷ rows) m ≡ Some q) next at_q)

place_id : (rows : List Row) (d p : ℕ) (q : Row) → place_of rows d ≡ Some p → IsAt rows p q → q.id ≡ d
place_id [] d p q h at_q = absurd (nothing_at p q at_q)
place_id (x ∷ rows) d p q h at_q = place_by x rows d p q (x.id == d) refl (λ n there at_n. place_id rows d n q there at_n) h at_q

outermost_at : (rows : List Row) (s : Row) → AreDistinct rows → IsAt rows 0 s → s.home ≡ None → enclosing rows s.id ≡ []
outermost_at [] s apart at_s home = absurd (nothing_at 0 s at_s)
outermost_at (x ∷ rows) s apart at_s home =
    let same : x ≡ s = same_Some x s at_s in
    subst (λ (t : Row). enclosing (x ∷ rows) t.id ≡ []) same (outermost x rows apart (ap (λ (t : Row). t.home) same ∙ home))

first_home : (rows : List Row) (s : Row) → BeginsWithModule rows → IsAt rows 0 s → s.home ≡ None
first_home [] s begins at_s = absurd begins
first_home (x ∷ rows) s begins at_s = ap (λ (t : Row). t.home) (sym (same_Some x s at_s)) ∙ begins.0.no_home

home_same : (h k : Home) → home_eq h k ≡ true → h ≡ k
home_same h k is =
    let parts = and_parts (h.row == k.row) (h.region == k.region) is in
    λ j. record { row = eqb-true h.row k.row parts.0 j; region = eqb-true h.region k.region parts.1 j }

home_itself : (h : Home) → home_eq h h ≡ true
home_itself h = ap (λ b. b && (h.region == h.region)) (eq-eqb h.row h.row refl) ∙ eq-eqb h.region h.region refl

module _ (rows : List Row) (apart : AreDistinct rows) (nested : AreNested rows) (begins : BeginsWithModule rows) (ls : List Laid) (pairs : ArePairs (IsLaidAs rows) 0 rows ls)
    (bare_apart : AreDistinct (bare_rows ls)) (bare_nested : AreNested (bare_rows ls)) where
  -- the operation of a row, and its row without operands
  pub record Bare (k : ℕ) (r : Row) : Type 0 where
    pub laid : Laid
    pub there : slice_get ls k ≡ Some laid
    pub is : IsLaidAs rows k r laid
    pub at : IsAt (bare_rows ls) k (row_with [] laid)

  pub bare_at : (k : ℕ) (r : Row) → IsAt rows k r → Bare k r
  bare_at k r at_r =
      let (l, there, is) = pair_at (IsLaidAs rows) 0 rows ls pairs k r at_r in
      record {
        laid = l;
        there = there;
        is = subst (λ n. IsLaidAs rows n r l) (let e : 0 + k ≡ k = omega arith in e) is;
        at = slice_get-map (row_with []) ls k ∙ ap (option_map (row_with [])) there;
      }

  record Enclosed (k : ℕ) (r : Row) : Type 0 where
    around : enclosing (bare_rows ls) k ≡ map (new_home rows) (enclosing rows r.id)
    known : AllByRecursion (λ h. (p : ℕ) × (place_of rows h.row ≡ Some p)) (enclosing rows r.id)

  first_enclosed : (r : Row) → IsAt rows 0 r → Enclosed 0 r
  first_enclosed r at_r =
      let b = bare_at 0 r at_r in
      let home = first_home rows r begins at_r in
      let old : enclosing rows r.id ≡ [] = outermost_at rows r apart at_r home in
      let none : b.laid.home ≡ None = b.is.home ∙ ap (option_map (new_home rows)) home in
      let new : enclosing (bare_rows ls) b.laid.id ≡ [] = outermost_at (bare_rows ls) (row_with [] b.laid) bare_apart b.at none in
      record {
        around = ap (enclosing (bare_rows ls)) (sym b.is.id) ∙ new ∙ ap (map (new_home rows)) (sym old);
        known = subst (AllByRecursion (λ h. (p : ℕ) × (place_of rows h.row ≡ Some p))) (sym old) tt;
      }

  next_enclosed : (k : ℕ) (r : Row) (h : Home) → IsAt rows k r → r.home ≡ Some h → (o : HomeRow rows k h) → Enclosed o.place o.row → Enclosed k r
  next_enclosed k r h at_r home o outer =
      let b = bare_at k r at_r in
      let some : b.laid.home ≡ Some (new_home rows h) = b.is.home ∙ ap (option_map (new_home rows)) home in
      let n = home_row (bare_rows ls) bare_apart bare_nested k (row_with [] b.laid) (new_home rows h) b.at some in
      let number : new_number rows h.row ≡ o.place = ap (new_number rows) (sym o.is) ∙ number_at rows apart o.place o.row o.at in
      let old : enclosing rows r.id ≡ h ∷ enclosing rows o.row.id = around_home rows apart k r h at_r home o in
      let new : enclosing (bare_rows ls) b.laid.id ≡ new_home rows h ∷ enclosing (bare_rows ls) n.row.id = around_home (bare_rows ls) bare_apart k (row_with [] b.laid) (new_home rows h) b.at some n in
      let outer_new : enclosing (bare_rows ls) n.row.id ≡ map (new_home rows) (enclosing rows o.row.id) = ap (enclosing (bare_rows ls)) (n.is ∙ number) ∙ outer.around in
      record {
        around = ap (enclosing (bare_rows ls)) (sym b.is.id) ∙ new ∙ ap (λ hs. new_home rows h ∷ hs) outer_new ∙ ap (map (new_home rows)) (sym old);
        known = subst (AllByRecursion (λ h. (p : ℕ) × (place_of rows h.row ≡ Some p))) (sym old) ((o.place, ap (place_of rows) (sym o.is) ∙ place_at rows apart o.place o.row o.at), outer.known);
      }

  enclosed_by : (n k : ℕ) (r : Row) → k < n → IsAt rows k r → Enclosed k r
  enclosed_by zero k r less at_r = absurd (omega arith)
  enclosed_by (suc n) zero r less at_r = first_enclosed r at_r
  enclosed_by (suc n) (suc k) r less at_r =
      let (h, home) = some_home r.home (has_home rows begins (suc k) r (omega arith) at_r) in
      let o = home_row rows apart nested (suc k) r h at_r home in
      next_enclosed (suc k) r h at_r home o (enclosed_by n o.place o.row (omega (arith, o.before, less)) o.at)

  enclosed : (k : ℕ) (r : Row) → IsAt rows k r → Enclosed k r
  enclosed k r at_r = enclosed_by (suc k) k r (omega arith) at_r

  -- ---- values

  -- The value is in scope at operation k, in a region around it.
  pub record Seen (v : Val) (k : ℕ) : Type 0 where
    pub scope : is_in_scope (bare_rows ls) v k ≡ true
    pub region_is : list_any (λ h. is_of_region (bare_rows ls) h v) (enclosing (bare_rows ls) k) ≡ true

  same_new : (h k : Home) → home_eq h k ≡ true → home_eq (new_home rows h) (new_home rows k) ≡ true
  same_new h k is = subst (λ x. home_eq (new_home rows h) (new_home rows x) ≡ true) (home_same h k is) (home_itself (new_home rows h))

  turned_new : (h k : Home) → home_eq h k ≡ true → home_eq (new_home rows k) (new_home rows h) ≡ true
  turned_new h k is = subst (λ x. home_eq (new_home rows x) (new_home rows h) ≡ true) (home_same h k is) (home_itself (new_home rows h))

  -- the same test of the homes around an operation
  around_any : (k : ℕ) (r : Row) → IsAt rows k r → (p q : Home → Bool) → ((h : Home) → p h ≡ true → q (new_home rows h) ≡ true) → list_any p (enclosing rows r.id) ≡ true → list_any q (enclosing (bare_rows ls) k) ≡ true
  around_any k r at_r p q up h = subst (λ hs. list_any q hs ≡ true) (sym (enclosed k r at_r).around) (any_map (new_home rows) p q (enclosing rows r.id) up h)

  home_here : (p : ℕ) (q : Row) → IsAt rows p q → home_of (bare_rows ls) p ≡ option_map (new_home rows) q.home
  home_here p q at_q =
      let b = bare_at p q at_q in
      ap (home_of (bare_rows ls)) (sym b.is.id) ∙ ap (option_and_then (λ (r : Row). r.home)) (found_at (bare_rows ls) bare_apart p (row_with [] b.laid) b.at) ∙ b.is.home

  not_around : (k p : ℕ) (r q : Row) → IsAt rows k r → IsAt rows p q → is_contained rows r.id q.id ≡ false → is_contained (bare_rows ls) k p ≡ false
  not_around k p r q at_r at_q h =
      let e = enclosed k r at_r in
      subst (λ hs. list_any (λ x. x.row == p) hs ≡ false) (sym e.around)
      (none_map (new_home rows) (λ h. (p : ℕ) × (place_of rows h.row ≡ Some p)) (λ x. x.row == q.id) (λ x. x.row == p) (enclosing rows r.id) e.known (λ x known is. same_row_of x known is) h)
    where
      same_row_of : (x : Home) → (n : ℕ) × (place_of rows x.row ≡ Some n) → (new_number rows x.row == p) ≡ true → (x.row == q.id) ≡ true
      same_row_of x (n, there) is =
          let number : n ≡ p = ap (λ o. unwrap_or o 0) (sym there) ∙ eqb-true (new_number rows x.row) p is in
          eq-eqb x.row q.id (sym (place_id rows x.row p q (subst (λ m. place_of rows x.row ≡ Some m) number there) at_q))

  result_seen : (k p i : ℕ) (r q : Row) (h : Home) → IsAt rows k r → IsAt rows p q → p < k → q.home ≡ Some h → is_inside rows r.id h ≡ true → is_contained rows r.id q.id ≡ false → Seen (Res p i) k
  result_seen k p i r q h at_r at_q less home inside outside =
      let bq = bare_at p q at_q in
      let br = bare_at k r at_r in
      let earlier : is_earlier (bare_rows ls) p k ≡ true = (λ j. is_earlier (bare_rows ls) (sym bq.is.id j) (sym br.is.id j)) ∙ earlier_at (bare_rows ls) p k (row_with [] bq.laid) (row_with [] br.laid) bq.at br.at less in
      let homes : home_of (bare_rows ls) p ≡ Some (new_home rows h) = home_here p q at_q ∙ ap (option_map (new_home rows)) home in
      let within : is_inside (bare_rows ls) k (new_home rows h) ≡ true = around_any k r at_r (home_eq h) (home_eq (new_home rows h)) (λ x is. same_new h x is) inside in
      let apart_from : is_contained (bare_rows ls) k p ≡ false = not_around k p r q at_r at_q outside in
      record {
        scope = (λ j. earlier j && (option_map_or (is_inside (bare_rows ls) k) (homes j) false && not (apart_from j))) ∙ ap (λ b. b && true) within;
        region_is = subst (λ o. list_any (λ x. option_map_or (home_eq x) o false) (enclosing (bare_rows ls) k) ≡ true) (sym homes)
            (around_any k r at_r (home_eq h) (λ x. home_eq x (new_home rows h)) (λ x is. turned_new h x is) inside);
      }

  some_inside : (u : ℕ) (o : Option Home) → option_map_or (is_inside rows u) o false ≡ true → (h : Home) × (o ≡ Some h) × (is_inside rows u h ≡ true)
  some_inside u None is = absurd (cc)
  some_inside u (Some h) is = (h, refl, is)

  by_not : (b : Bool) → not b ≡ true → b ≡ false
  by_not true h = absurd (cc)
  by_not false h = refl

  -- a visible value, with the place of its row
  pub seen : (k : ℕ) (r : Row) (v : Val) → IsAt rows k r → IsVisible rows v r.id → Seen (new_value rows v) k
  unfolding is_visible
  seen k r (Res d i) at_r visible =
      let scope = (and_parts (is_value rows (Res d i)) (is_in_scope rows (Res d i) r.id) visible).1 in
      let parts = and_parts (is_earlier rows d r.id) (option_map_or (is_inside rows r.id) (home_of rows d) false && not (is_contained rows r.id d)) scope in
      let more = and_parts (option_map_or (is_inside rows r.id) (home_of rows d) false) (not (is_contained rows r.id d)) parts.1 in
      let o = place_by_earlier rows apart d k r at_r parts.0 in
      let found : home_of rows d ≡ o.row.home = ap (home_of rows) (sym o.is) ∙ ap (option_and_then (λ (t : Row). t.home)) (found_at rows apart o.place o.row o.at) in
      let (h, home, inside) = some_inside r.id o.row.home (subst (λ x. option_map_or (is_inside rows r.id) x false ≡ true) found more.0) in
      let number : o.place ≡ new_number rows d = sym (number_at rows apart o.place o.row o.at) ∙ ap (new_number rows) o.is in
      subst (λ n. Seen (Res n i) k) number
      (result_seen k o.place i r o.row h at_r o.at o.before home inside (subst (λ n. is_contained rows r.id n ≡ false) (sym o.is) (by_not (is_contained rows r.id d) more.1)))
  seen k r (Arg d g i) at_r visible =
      let inside = (and_parts (is_value rows (Arg d g i)) (is_in_scope rows (Arg d g i) r.id) visible).1 in
      let home : Home = record { row = d; region = g } in
      record {
        scope = around_any k r at_r (home_eq home) (home_eq (new_home rows home)) (λ x is. same_new home x is) inside;
        region_is = around_any k r at_r (home_eq home) (λ x. home_eq x (new_home rows home)) (λ x is. turned_new home x is) inside;
      }
