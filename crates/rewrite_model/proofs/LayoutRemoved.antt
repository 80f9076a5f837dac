-- Removing a row with the rows inside it leaves the layout of the others as it is.
use Rattle.std.proofs.Common.{◌≡◌, ◌≢◌, ℕ, ◌<◌, Bool, true, false, not, ◌||◌, cond, List, [], ◌∷◌, map, length, get_or, Option, Some, None, refl, sym, ap, subst, ◌∙◌}
use Rattle.std.specs.Prelude.{◌==◌, All, IfSome, IsSome, nat_eq, filter}
use Rattle.std.specs.List.{list_any, IsDistinct, AllByRecursion}
use Rattle.std.proofs.lemmas.Bool.{ne_eqb, eqb-true}
use Rattle.std.proofs.lemmas.List.Elements.{All-filter, All-from_recursion, recursion_from_All}
use Rattle.mlir_tree.specs.declared.row.Home.{Home}
use Rattle.mlir_tree.specs.declared.row.Row.{Row}
use Rattle.mlir_tree.specs.declared.rows.Rows.{Rows}
use Rattle.mlir_tree.specs.Module.{has_row, enclosing, home_eq, is_contained}
use Rattle.mlir_tree.specs.WellFormed.{AreDistinct, IsModuleRow, BeginsWithModule, IsEarlierRegion, AreNested, HasDictionaries, HasSizes}
use Rattle.mlir_tree.specs.Edits.{is_removed, removed}
use Rattle.mlir_tree.proofs.Visibility.{or_false}
use Rattle.row_index.specs.Walking.{number_at}
use Rattle.row_index.proofs.Searching.{at_place}
use Rattle.rewrite_model.specs.Laws.{IsLaidOut}
use Rattle.mlir_tree.proofs.Removal.{keep, row_of-keep, is_earlier-keep, enclosing-keep}
use Rattle.rewrite_model.proofs.Places.{earlier_is_row, later_is_row, around_home, around_none}

-- ---- lists of which some members are kept

keeps_all : {X : Type 0} (p : X → Bool) (P : X → Type 0) (xs : List X) → AllByRecursion (λ x. p x ≡ true → P x) xs → AllByRecursion P (filter p xs)
keeps_all p P [] h = tt
keeps_all p P (x ∷ xs) h = by (p x) refl (keeps_all p P xs h.1) where
  by : (b : Bool) → p x ≡ b → AllByRecursion P (filter p xs) → AllByRecursion P (cond b (x ∷ filter p xs) (filter p xs))
  by true e go = (h.0 e, go)
  by false e go = go

others : (n : ℕ) (p : Row → Bool) (rows : List Row) → AllByRecursion (λ y. nat_eq n y ≡ false) (map (λ r. r.id) rows) → AllByRecursion (λ y. nat_eq n y ≡ false) (map (λ r. r.id) (filter p rows))
others n p [] h = tt
others n p (r ∷ rows) h = by (p r) (others n p rows h.1) where
  by : (b : Bool) → AllByRecursion (λ y. nat_eq n y ≡ false) (map (λ r. r.id) (filter p rows)) → AllByRecursion (λ y. nat_eq n y ≡ false) (map (λ r. r.id) (cond b (r ∷ filter p rows) (filter p rows)))
  by true go = (h.0, go)
  by false go = go

distinct_kept : (p : Row → Bool) (rows : List Row) → AreDistinct rows → AreDistinct (filter p rows)
unfolding IsDistinct
distinct_kept p [] h = tt
distinct_kept p (r ∷ rows) h = by (p r) (distinct_kept p rows h.1) where
  by : (b : Bool) → AreDistinct (filter p rows) → AreDistinct (cond b (r ∷ filter p rows) (filter p rows))
  by true go = (others r.id p rows h.0, go)
  by false go = go

-- a number that a kept row has is kept
stays_there : (stays : ℕ → Bool) (rows : List Row) (u : ℕ) → has_row (keep stays rows) u ≡ true → stays u ≡ true
stays_there stays [] u h = absurd (cc)
stays_there stays (r ∷ rows) u h = by (stays r.id) refl h (stays_there stays rows u) where
  by : (b : Bool) → stays r.id ≡ b → has_row (cond b (r ∷ keep stays rows) (keep stays rows)) u ≡ true → (has_row (keep stays rows) u ≡ true → stays u ≡ true) → stays u ≡ true
  by false e h go = go h
  by true e h go = here (r.id == u) refl h where
    here : (c : Bool) → (r.id == u) ≡ c → (c || has_row (keep stays rows) u) ≡ true → stays u ≡ true
    here true q h = ap stays (sym (same q)) ∙ e where
      same : (r.id == u) ≡ true → r.id ≡ u
      same q = eqb-true r.id u q
    here false q h = go h

module _ (id : ℕ) (top : id ≢ 0) (m : Rows) (l : IsLaidOut m) where
  abbrev stays : ℕ → Bool
  stays u = not (is_removed m.rows id u)

  abbrev kept : List Row
  kept = keep stays m.rows

  free : (u : ℕ) → stays u ≡ true → is_removed m.rows id u ≡ false
  free u s = by (is_removed m.rows id u) s where
    by : (b : Bool) → not b ≡ true → b ≡ false
    by true e = cc
    by false e = refl

  same_enclosing : (u : ℕ) → stays u ≡ true → enclosing kept u ≡ enclosing m.rows u
  same_enclosing u s = enclosing-keep id m.rows u l.numbers.differ (free u s)

  -- the row of a kept row's home is kept
  home_stays : (j : ℕ) (d : Row) (h : Home) → j < length m.rows → (get_or m.rows j d).home ≡ Some h → stays (get_or m.rows j d).id ≡ true → stays h.row ≡ true
  home_stays j d h fits is s =
      let a = around_home m.rows l.numbers.differ l.nesting j (get_or m.rows j d).id h d (at_place m.rows j d fits) is in
      let f = or_false ((get_or m.rows j d).id == id) (is_contained m.rows (get_or m.rows j d).id id) (free (get_or m.rows j d).id s) in
      let c : ((h.row == id) || list_any (λ (k : Home). k.row == id) (enclosing m.rows h.row)) ≡ false = ap (list_any (λ (k : Home). k.row == id)) (sym a.3) ∙ f.1 in
      ap not c

  homes : All (λ r. IfSome r.home (IsEarlierRegion kept r.id)) kept
  homes = All-from_recursion (λ r. IfSome r.home (IsEarlierRegion kept r.id)) kept
      (keeps_all (λ r. stays r.id) (λ r. IfSome r.home (IsEarlierRegion kept r.id)) m.rows
      (recursion_from_All (λ r. stays r.id ≡ true → IfSome r.home (IsEarlierRegion kept r.id)) m.rows each)) where
        each : All (λ r. stays r.id ≡ true → IfSome r.home (IsEarlierRegion kept r.id)) m.rows
        each k d fits s = by (get_or m.rows k d).home refl (l.nesting.homes k d fits) where
          by : (o : Option Home) → (get_or m.rows k d).home ≡ o → IfSome o (IsEarlierRegion m.rows (get_or m.rows k d).id) → IfSome o (IsEarlierRegion kept (get_or m.rows k d).id)
          by None e h = h
          by (Some h) e i =
              let t = home_stays k d h fits e s in
              (is_earlier-keep stays m.rows h.row (get_or m.rows k d).id t s ∙ i.0, subst (λ o. IfSome o (λ r. h.region < length r.regions)) (sym (row_of-keep stays m.rows h.row t)) i.1)

  nested : AreNested kept
  nested = record {
    homes = homes;
    together = λ d between u p q c.
        let sd = stays_there stays m.rows d (earlier_is_row kept d between p) in
        let sb = stays_there stays m.rows between (later_is_row kept d between p) in
        let su = stays_there stays m.rows u (later_is_row kept between u q) in
        ap (list_any (λ (h : Home). h.row == d)) (same_enclosing between sb)
        ∙ l.nesting.together d between u (sym (is_earlier-keep stays m.rows d between sd sb) ∙ p) (sym (is_earlier-keep stays m.rows between u sb su) ∙ q)
        (ap (list_any (λ (h : Home). h.row == d)) (sym (same_enclosing u su)) ∙ c);
    by_region = λ d g k u v p q e.
        let su = stays_there stays m.rows u (earlier_is_row kept u v e) in
        let sv = stays_there stays m.rows v (later_is_row kept u v e) in
        l.nesting.by_region d g k u v (ap (list_any (home_eq (record { row = d; region = g }))) (sym (same_enclosing u su)) ∙ p)
        (ap (list_any (home_eq (record { row = d; region = k }))) (sym (same_enclosing v sv)) ∙ q) (sym (is_earlier-keep stays m.rows u v su sv) ∙ e);
  }

  -- the module stands first
  module_stays : (r : Row) (rows : List Row) → m.rows ≡ r ∷ rows → IsModuleRow r → stays r.id ≡ true
  module_stays r rows e is = ap not (λ i. other i || list_any (λ (h : Home). h.row == id) (alone i)) where
    other : (r.id == id) ≡ false
    other = ne_eqb r.id id (λ p. top (sym p ∙ is.number))

    alone : enclosing m.rows r.id ≡ []
    alone =
        around_none m.rows l.numbers.differ l.nesting 0 r.id r (ap (λ rs. number_at rs 0) e) (ap (λ rs. (get_or rs 0 r).home) e ∙ is.no_home)

  begins : (rows : List Row) → m.rows ≡ rows → BeginsWithModule rows → BeginsWithModule (keep stays rows)
  begins [] e h = h
  begins (r ∷ rows) e h = subst (λ b. BeginsWithModule (cond b (r ∷ keep stays rows) (keep stays rows))) (sym (module_stays r rows e h.0))
      (h.0, All-filter (λ r. stays r.id) (λ s. IsSome s.home) rows h.1)

  pub removed_layout : IsLaidOut (removed id m)
  unfolding removed
  removed_layout = record {
    numbers = record {
      differ = distinct_kept (λ r. stays r.id) m.rows l.numbers.differ;
      below_next = All-filter (λ r. stays r.id) (λ r. r.id < m.next) m.rows l.numbers.below_next;
      begins = begins m.rows refl l.numbers.begins;
    };
    nesting = nested;
    dictionaries = All-filter (λ r. stays r.id) HasDictionaries m.rows l.dictionaries;
    sizes = All-filter (λ r. stays r.id) HasSizes m.rows l.sizes;
  }
