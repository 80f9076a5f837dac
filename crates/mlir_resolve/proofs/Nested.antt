-- The rows of a tree are numbered and nested.
use Rattle.std.proofs.Common.{◌≡◌, ◌<◌, ◌≤◌, ◌+◌, ℕ, zero, suc, Bool, true, false, ◌||◌, List, [], ◌∷◌, length, map, get_or, Option, Some, None, refl, sym, ap, subst, ◌∙◌, arith, ⊎_elim}
use Rattle.std.specs.Prelude.{◌==◌, nat_eq, nat_lt, slice_get, IfSome}
use Rattle.std.specs.Option.{option_map}
use Rattle.std.specs.List.{list_any}
use Rattle.std.proofs.lemmas.Bool.Decides.{nat_tests}
use Rattle.std.proofs.lemmas.List.{length-map}
use Rattle.std.proofs.lemmas.List.Folds.{list_any_none}
use Rattle.std.proofs.lemmas.Option.{slice_get-get_or, slice_get-map, get_or_from_slice_get}
use Rattle.std.proofs.lemmas.Map.Keys.{IsDistinct-from_apart}
use Rattle.mlir_tree.specs.declared.row.Home.{Home}
use Rattle.mlir_tree.specs.declared.row.Row.{Row}
use Rattle.mlir_tree.specs.declared.value.Val.{Val}
use Rattle.mlir_tree.specs.Module.{has_row, is_earlier, row_of, enclosing, home_eq, is_inside, is_contained}
use Rattle.mlir_tree.specs.WellFormed.{AreDistinct, AreNested, IsEarlierRegion}
use Rattle.mlir_parse.specs.SynTree.{Operation}
use Rattle.mlir_resolve.specs.Laid.{Laid, implied_head, region, row_with, laid_operation, argument_types}
use Rattle.row_index.specs.Walking.{number_at, around_place}
use Rattle.row_index.proofs.Searching.{order}
use Rattle.row_index.proofs.Walks.{not_later, not_earlier, earlier_place, enclosed_at, outer_home, no_home, row_at}
use Rattle.mlir_resolve.proofs.Spans.{AllAt, operation_numbers, IsNumber, IsRowRun, IsRegionRun, IsBefore, is_between, leads_to_row, leads_to_region}
use Rattle.mlir_resolve.proofs.RowFacts.{Facts, tree_facts, homes_before, fact_of, fact_at}

-- ---- rows whose operands are given

abbrev pub rows_by : (Laid → List Val) → List Laid → List Row
rows_by f ls = map (λ l. row_with (f l) l) ls

-- any row
abbrev pub blank : Laid
blank = record { id = 0; home = None; head = implied_head; arguments = [] }

all_of_facts : (P : ℕ → Laid → Type 0) (ls : List Laid) → AllAt P 0 ls → (k : ℕ) → k < length ls → P k (get_or ls k blank)
all_of_facts P ls all k l = fact_of P ls k blank all l

numbered_from : (f : Laid → List Val) (n : ℕ) (ls : List Laid) → AllAt IsNumber n ls → AreDistinct (rows_by f ls)
numbered_from f n ls all =
    IsDistinct-from_apart nat_eq (map (λ (r : Row). r.id) (rows_by f ls)) (λ i j d p q.
    let long = length-map (rows_by f ls) (λ (r : Row). r.id) ∙ length-map ls (λ l. row_with (f l) l) in
    let a = id_is i d (omega (arith, p, q, long)) in
    let b = id_is j d (omega (arith, q, long)) in
    grind (arith, nat_tests, a, b, p))
  where
    id_is : (i d : ℕ) → i < length ls → get_or (map (λ (r : Row). r.id) (rows_by f ls)) i d ≡ n + i
    id_is i d l =
        get_or_from_slice_get (map (λ (r : Row). r.id) (rows_by f ls)) i (n + i) d
        (slice_get-map (λ (r : Row). r.id) (rows_by f ls) i
        ∙ (ap (option_map (λ (r : Row). r.id)) (slice_get-map (λ l. row_with (f l) l) ls i ∙ ap (option_map (λ l. row_with (f l) l)) (slice_get-get_or ls i blank l))
        ∙ ap Some (fact_at IsNumber n ls i blank all l)))

earlier_has : (rows : List Row) (d u : ℕ) → is_earlier rows d u ≡ true → has_row rows d ≡ true
earlier_has rows d u h = by_test (has_row rows d) refl
  where
    by_test : (b : Bool) → has_row rows d ≡ b → has_row rows d ≡ true
    by_test true e = e
    by_test false e = absurd (let none = not_earlier rows d u e in cc (none, h))

later_has : (rows : List Row) (d u : ℕ) → is_earlier rows d u ≡ true → has_row rows u ≡ true
later_has rows d u h = by_test (has_row rows u) refl
  where
    by_test : (b : Bool) → has_row rows u ≡ b → has_row rows u ≡ true
    by_test true e = e
    by_test false e = absurd (let none = not_later rows d u e in cc (none, h))

module _ (f : Laid → List Val) (o : Operation) where
  abbrev pub ls : List Laid
  ls = laid_operation 0 None o

  abbrev pub rows : List Row
  rows = rows_by f ls

  -- the row of number k
  abbrev pub row : ℕ → Row
  row k = row_with (f (get_or ls k blank)) (get_or ls k blank)

  pub rows_length : length rows ≡ length ls
  rows_length = length-map ls (λ l. row_with (f l) l)

  pub row_here : (k : ℕ) → k < length ls → slice_get rows k ≡ Some (row k)
  row_here k l = slice_get-map (λ l'. row_with (f l') l') ls k ∙ ap (option_map (λ l'. row_with (f l') l')) (slice_get-get_or ls k blank l)

  pub row_get : (k : ℕ) (d : Row) → k < length ls → get_or rows k d ≡ row k
  row_get k d l = get_or_from_slice_get rows k (row k) d (row_here k l)

  pub number : (k : ℕ) → k < length ls → number_at rows k ≡ Some k
  number k l = ap (option_map (λ (r : Row). r.id)) (row_here k l) ∙ ap Some (fact_of IsNumber ls k blank (operation_numbers 0 None o) l)

  pub id_is : (k : ℕ) → k < length ls → (row k).id ≡ k
  id_is k l = fact_of IsNumber ls k blank (operation_numbers 0 None o) l

  pub distinct : AreDistinct rows
  distinct = numbered_from f 0 ls (operation_numbers 0 None o)

  pub earlier_is : (d u : ℕ) → d < length ls → u < length ls → is_earlier rows d u ≡ nat_lt d u
  earlier_is d u p q = earlier_place rows d u d u distinct (number d p) (number u q)

  pub row_of_is : (d : ℕ) → d < length ls → row_of rows d ≡ Some (row d)
  row_of_is d p = row_at rows d d (row d) distinct (number d p) ∙ ap Some (row_get d (row d) p)

  pub enclosing_is : (u : ℕ) → u < length ls → enclosing rows u ≡ around_place rows u
  enclosing_is u p =
      ap (enclosing rows) (sym (ap (λ (r : Row). r.id) (row_get u (row u) p) ∙ id_is u p))
      ∙ enclosed_at rows u (row u) distinct (omega (arith, p, rows_length))

  -- the homes around a row
  pub around_none : (u : ℕ) → u < length ls → (get_or ls u blank).home ≡ None → around_place rows u ≡ []
  around_none u p is = no_home rows u (row u) (omega (arith, p, rows_length)) (ap (λ (r : Row). r.home) (row_get u (row u) p) ∙ is)

  pub around_some : (u : ℕ) (h : Home) → u < length ls → (get_or ls u blank).home ≡ Some h → around_place rows u ≡ h ∷ around_place rows h.row
  around_some u h p is =
      let before = (fact_of IsBefore ls u blank (homes_before o) p).before h is in
      outer_home rows u h.row h (row u) distinct (omega (arith, p, rows_length)) (ap (λ (r : Row). r.home) (row_get u (row u) p) ∙ is) (number h.row (omega (arith, before, p))) before

  pub facts : (d : ℕ) → d < length ls → Facts ls d (get_or ls d blank)
  facts d p = fact_of (Facts ls) ls d blank (tree_facts o) p

  -- ---- inside a row

  widened : (d e k : ℕ) → d < e → ((k == d) || is_between (suc d) e k) ≡ is_between d e k
  widened d e k p = by_test (k == d) refl
    where
      by_test : (b : Bool) → (k == d) ≡ b → (b || is_between (suc d) e k) ≡ is_between d e k
      by_test true e' = grind (arith, nat_tests, e', p)
      by_test false e' = grind (arith, nat_tests, e')

  contained_below : (d : ℕ) (q : d < length ls) (m u : ℕ) → u < m → u < length ls → list_any (λ h. h.row == d) (around_place rows u) ≡ is_between (suc d) (facts d q).end u
  contained_below d q zero u l p = absurd (omega (arith, l))
  contained_below d q (suc m) u l p = by_home (get_or ls u blank).home refl (λ h is. contained_below d q m h.row (omega (arith, (fact_of IsBefore ls u blank (homes_before o) p).before h is, l)) (omega (arith, (fact_of IsBefore ls u blank (homes_before o) p).before h is, p)))
    where
      e : ℕ
      e = (facts d q).end

      here : is_between (suc d) (facts d q).end u ≡ leads_to_row d (facts d q).end (get_or ls u blank).home
      here = fact_of (IsRowRun d (facts d q).end) ls u blank (facts d q).rows p

      by_home : (x : Option Home) → (get_or ls u blank).home ≡ x → ((h : Home) → (get_or ls u blank).home ≡ Some h → list_any (λ h. h.row == d) (around_place rows h.row) ≡ is_between (suc d) (facts d q).end h.row)
          → list_any (λ h. h.row == d) (around_place rows u) ≡ is_between (suc d) (facts d q).end u
      by_home None is rest = ap (list_any (λ h. h.row == d)) (around_none u p is) ∙ sym (here ∙ ap (leads_to_row d (facts d q).end) is)
      by_home (Some h) is rest =
          ap (list_any (λ h. h.row == d)) (around_some u h p is)
          ∙ ((λ i. (h.row == d) || rest h is i)
          ∙ (widened d (facts d q).end h.row (facts d q).beyond ∙ sym (here ∙ ap (leads_to_row d (facts d q).end) is)))

  pub contained_is : (d u : ℕ) (q : d < length ls) → u < length ls → is_contained rows u d ≡ is_between (suc d) (facts d q).end u
  contained_is d u q p = ap (list_any (λ h. h.row == d)) (enclosing_is u p) ∙ contained_below d q (suc u) u (omega arith) p

  -- ---- inside a region

  inside_below : (d g : ℕ) (q : d < length ls) (m u : ℕ) → u < m → u < length ls
      → list_any (home_eq (region d g)) (around_place rows u) ≡ is_between ((facts d q).start g) ((facts d q).start (suc g)) u
  inside_below d g q zero u l p = absurd (omega (arith, l))
  inside_below d g q (suc m) u l p = by_home (get_or ls u blank).home refl (λ h is. inside_below d g q m h.row (omega (arith, (fact_of IsBefore ls u blank (homes_before o) p).before h is, l)) (omega (arith, (fact_of IsBefore ls u blank (homes_before o) p).before h is, p)))
    where
      here : is_between ((facts d q).start g) ((facts d q).start (suc g)) u ≡ leads_to_region (region d g) ((facts d q).start g) ((facts d q).start (suc g)) (get_or ls u blank).home
      here = fact_of (IsRegionRun (region d g) ((facts d q).start g) ((facts d q).start (suc g))) ls u blank ((facts d q).regions g) p

      by_home : (x : Option Home) → (get_or ls u blank).home ≡ x
          → ((h : Home) → (get_or ls u blank).home ≡ Some h → list_any (home_eq (region d g)) (around_place rows h.row) ≡ is_between ((facts d q).start g) ((facts d q).start (suc g)) h.row)
          → list_any (home_eq (region d g)) (around_place rows u) ≡ is_between ((facts d q).start g) ((facts d q).start (suc g)) u
      by_home None is rest = ap (list_any (home_eq (region d g))) (around_none u p is) ∙ sym (here ∙ ap (leads_to_region (region d g) ((facts d q).start g) ((facts d q).start (suc g))) is)
      by_home (Some h) is rest =
          ap (list_any (home_eq (region d g))) (around_some u h p is)
          ∙ ((λ i. home_eq (region d g) h || rest h is i) ∙ sym (here ∙ ap (leads_to_region (region d g) ((facts d q).start g) ((facts d q).start (suc g))) is))

  pub inside_is : (d g u : ℕ) (q : d < length ls) → u < length ls → is_inside rows u (region d g) ≡ is_between ((facts d q).start g) ((facts d q).start (suc g)) u
  inside_is d g u q p = ap (list_any (home_eq (region d g))) (enclosing_is u p) ∙ inside_below d g q (suc u) u (omega arith) p

  -- ---- nested

  below : (d : ℕ) → has_row rows d ≡ true → d < length ls
  below d h = ⊎_elim (λ l. l) (λ le. absurd (let none = no_row_of d le in cc (none, h))) (order d (length ls))
    where
      no_row_of : (n : ℕ) → length ls ≤ n → has_row rows n ≡ false
      no_row_of n le = list_any_none (λ (r : Row). r.id == n) rows
          (λ k e l. let fits : k < length ls = omega (arith, l, rows_length) in grind (arith, nat_tests, ap (λ (r : Row). r.id) (row_get k e fits) ∙ id_is k fits, fits, le))

  earlier_less : (d u : ℕ) → is_earlier rows d u ≡ true → (d < length ls) × (u < length ls) × (d < u)
  earlier_less d u h =
      let p = below d (earlier_has rows d u h) in
      let q = below u (later_has rows d u h) in
      (p, q, grind (arith, nat_tests, sym (earlier_is d u p q) ∙ h))

  start_below : (d : ℕ) (q : d < length ls) (k g : ℕ) → k ≤ g → (facts d q).start k ≤ (facts d q).start g
  start_below d q k zero le = let e : k ≡ 0 = omega (arith, le) in omega (arith, ap (facts d q).start e)
  start_below d q k (suc g) le = ⊎_elim (λ l. omega (arith, start_below d q k g (omega (arith, l)), (facts d q).rises g)) (λ l. let e : k ≡ suc g = omega (arith, l, le) in omega (arith, ap (facts d q).start e)) (order k (suc g))

  region_there : (u : ℕ) (h : Home) (p : u < length ls) → (get_or ls u blank).home ≡ Some h → (q : h.row < length ls) → h.region < length (get_or ls h.row blank).arguments
  region_there u h p is q = ⊎_elim (λ l. l) (λ le. absurd (no_rows le)) (order h.region (length (get_or ls h.row blank).arguments))
    where
      no_rows : length (get_or ls h.row blank).arguments ≤ h.region → ⊥
      no_rows le =
          let s = (facts h.row q).start h.region in
          let t = (facts h.row q).start (suc h.region) in
          let none : s ≡ t = (facts h.row q).still h.region le in
          let here : is_between s t u ≡ leads_to_region (region h.row h.region) s t (get_or ls u blank).home = fact_of (IsRegionRun (region h.row h.region) s t) ls u blank ((facts h.row q).regions h.region) p in
          let empty : is_between s t u ≡ false = grind (arith, nat_tests, none) in
          let full : leads_to_region (region h.row h.region) s t (get_or ls u blank).home ≡ true = ap (leads_to_region (region h.row h.region) s t) is ∙ (λ i. same_home h i || is_between s t h.row) in
          cc (sym empty ∙ (here ∙ full))
        where
          same_home : (h : Home) → home_eq (region h.row h.region) h ≡ true
          same_home h = grind (arith, nat_tests)

  home_of_row : (k : ℕ) (e : Row) → k < length rows → IfSome (get_or rows k e).home (IsEarlierRegion rows (get_or rows k e).id)
  home_of_row k e l =
      let fits : k < length ls = omega (arith, l, rows_length) in
      subst (λ (r : Row). IfSome r.home (IsEarlierRegion rows r.id)) (sym (row_get k e fits))
      (subst (λ (n : ℕ). IfSome (row k).home (IsEarlierRegion rows n)) (sym (id_is k fits)) (by_home fits (get_or ls k blank).home refl))
    where
      by_home : (fits : k < length ls) (x : Option Home) → (get_or ls k blank).home ≡ x → IfSome x (IsEarlierRegion rows k)
      by_home fits None is = tt
      by_home fits (Some h) is =
          let before = (fact_of IsBefore ls k blank (homes_before o) fits).before h is in
          let there : h.row < length ls = omega (arith, before, fits) in (
            earlier_is h.row k there fits ∙ grind (arith, nat_tests, before),
            subst (λ (x : Option Row). IfSome x (λ r. h.region < length r.regions)) (sym (row_of_is h.row there))
                (omega (arith, region_there k h fits is there, length-map (get_or ls h.row blank).arguments argument_types)),
          )

  pub nested : AreNested rows
  nested = record {
    homes = home_of_row;
    together = λ d between u first second inner.
        let a = earlier_less d between first in
        let b = earlier_less between u second in
        let of_u : is_between (suc d) (facts d a.0).end u ≡ true = sym (contained_is d u a.0 b.1) ∙ inner in
        contained_is d between a.0 a.1 ∙ grind (arith, nat_tests, of_u, a.2, b.2);
    by_region = λ d g k u v in_g in_k second.
        let b = earlier_less u v second in
        let there : d < length ls = omega (arith, inside_after d g (suc u) u (omega arith) b.0 (sym (ap (list_any (home_eq (region d g))) (enclosing_is u b.0)) ∙ in_g), b.0) in
        let of_u : is_between ((facts d there).start g) ((facts d there).start (suc g)) u ≡ true = sym (inside_is d g u there b.0) ∙ in_g in
        let of_v : is_between ((facts d there).start k) ((facts d there).start (suc k)) v ≡ true = sym (inside_is d k v there b.1) ∙ in_k in
        ⊎_elim (λ l. let above = start_below d there (suc k) g l in absurd (apart ((facts d there).start g) ((facts d there).start (suc g)) ((facts d there).start k) ((facts d there).start (suc k)) u v of_u of_v above b.2)) (λ l. l) (order k g);
  }
    where
      apart : (s t a b u v : ℕ) → is_between s t u ≡ true → is_between a b v ≡ true → b ≤ s → u < v → ⊥
      apart s t a b u v p q le lt = absurd (omega (arith, from_first s t u p, to_last a b v q, le, lt))
        where
          from_first : (s t u : ℕ) → is_between s t u ≡ true → s ≤ u
          from_first s t u p = grind (arith, nat_tests, p)

          to_last : (a b v : ℕ) → is_between a b v ≡ true → v < b
          to_last a b v q = grind (arith, nat_tests, q)

      inside_after : (d g m u : ℕ) → u < m → u < length ls → list_any (home_eq (region d g)) (around_place rows u) ≡ true → d < u
      inside_after d g zero u l p h = absurd (omega (arith, l))
      inside_after d g (suc m) u l p h = by_home (get_or ls u blank).home refl (λ x is i. inside_after d g m x.row (omega (arith, (fact_of IsBefore ls u blank (homes_before o) p).before x is, l)) (omega (arith, (fact_of IsBefore ls u blank (homes_before o) p).before x is, p)) i)
        where
          by_home : (x : Option Home) → (get_or ls u blank).home ≡ x → ((x : Home) → (get_or ls u blank).home ≡ Some x → list_any (home_eq (region d g)) (around_place rows x.row) ≡ true → d < x.row) → d < u
          by_home None is rest = absurd (let none = sym (ap (list_any (home_eq (region d g))) (around_none u p is)) ∙ h in cc)
          by_home (Some x) is rest =
              let before = (fact_of IsBefore ls u blank (homes_before o) p).before x is in
              by_test (home_eq (region d g) x) refl (sym (ap (list_any (home_eq (region d g))) (around_some u x p is)) ∙ h) before (rest x is)
            where
              by_test : (b : Bool) → home_eq (region d g) x ≡ b → (home_eq (region d g) x || list_any (home_eq (region d g)) (around_place rows x.row)) ≡ true → x.row < u → (list_any (home_eq (region d g)) (around_place rows x.row) ≡ true → d < x.row) → d < u
              by_test true e all before rest = let same : d ≡ x.row = row_same d g x e in omega (arith, same, before)
                where
                  row_same : (d g : ℕ) (x : Home) → home_eq (region d g) x ≡ true → d ≡ x.row
                  row_same d g x e = grind (arith, nat_tests, e)
              by_test false e all before rest = omega (arith, rest (sym (λ i. e i || list_any (home_eq (region d g)) (around_place rows x.row)) ∙ all), before)
