-- Which names stand in a region before a value that is made there.
use Rattle.std.proofs.Common.{◌≡◌, ◌<◌, ◌≤◌, ◌+◌, ℕ, suc, Bool, true, false, not, ◌&&◌, ◌||◌, cond, List, [], ◌∷◌, ◌++◌, length, get_or, Option, Some, None, refl, sym, ap, subst, ◌∙◌, arith, append-nil}
use Rattle.std.specs.Prelude.{◌==◌, nat_lt, find, filter, flat_map, drop}
use Rattle.std.specs.Option.{option_map_or, option_and_then, is_some}
use Rattle.std.specs.List.{list_any, list_all}
use Rattle.std.specs.Str.{bytes_eq}
use Rattle.std.proofs.lemmas.Bool.Decides.{nat_tests}
use Rattle.std.proofs.lemmas.Grind.{flat_map-append}
use Rattle.std.proofs.lemmas.List.Elements.{filter-append}
use Rattle.mlir_tree.specs.declared.row.Home.{Home}
use Rattle.mlir_tree.specs.declared.row.Row.{Row}
use Rattle.mlir_tree.specs.declared.value.Val.{Val}
use Rattle.mlir_tree.specs.declared.value.Val.TheVariants.{Res, Arg}
use Rattle.mlir_tree.specs.Tree.{Ty}
use Rattle.mlir_tree.specs.Module.{home_eq, home_of}
use Rattle.mlir_parse.specs.declared.syn.SynArg.{SynArg}
use Rattle.mlir_parse.specs.declared.syn.SynResult.{SynResult}
use Rattle.mlir_parse.specs.SynTree.{Operation}
use Rattle.mlir_resolve.specs.Laid.{Laid, region, bare_rows}
use Rattle.mlir_resolve.specs.Sight.{Definition, result_definitions, argument_definitions, region_definitions, row_definitions, definitions, is_of_region, is_made_before, is_named_before}
use Rattle.mlir_resolve.specs.Scopes.{find_name}
use Rattle.mlir_resolve.proofs.Spans.{AllAt, all_weaker, operation_numbers, IsNumber}
use Rattle.mlir_resolve.proofs.RowFacts.{fact_of}
use Rattle.mlir_resolve.proofs.Nested.{blank, row_of_is}
use Rattle.mlir_resolve.proofs.Shown.{Tested, pass_results, pass_arguments, pass_rows, all_from, all_or_none, find_passed, no_values, tree}
use Rattle.mlir_resolve.proofs.Sights.{Outward, no_row_around}
use Rattle.mlir_resolve.proofs.Scenes.{front, back, both, Placed, placed, scene}

any_one : (t : Definition → Bool) (d : Definition) (b : Bool) (r : Bool) (o : Option Definition) → r ≡ is_some o → (b || r) ≡ is_some (cond b (Some d) o)
any_one t d true r o p = refl
any_one t d false r o p = p

any_found : (t : Definition → Bool) (ds : List Definition) → list_any t ds ≡ is_some (find t ds)
any_found t [] = refl
any_found t (d ∷ ds) = any_one t d (t d) _ _ (any_found t ds)

-- ---- rows of which no definition passes

pub record Refused (q : Val → Bool) (l : Laid) : Type 0 where
  pub results : (k : ℕ) → q (Res l.id k) ≡ false
  pub arguments : (g k : ℕ) → q (Arg l.id g k) ≡ false

pub refuse_regions : (q : Val → Bool) (d : ℕ) → ((g k : ℕ) → q (Arg d g k) ≡ false) → (g : ℕ) (more : List (List SynArg)) → filter (λ (x : Definition). q x.first) (region_definitions d g more) ≡ []
refuse_regions q d is g [] = refl
refuse_regions q d is g (args ∷ more) =
    filter-append (λ (x : Definition). q x.first) (argument_definitions d g 0 args) (region_definitions d (g + 1) more)
    ∙ (λ i. pass_arguments q d g false (is g) 0 args i ++ refuse_regions q d is (g + 1) more i)

refuse_row : (q : Val → Bool) (l : Laid) → Refused q l → filter (λ (x : Definition). q x.first) (row_definitions l) ≡ []
refuse_row q l t =
    filter-append (λ (x : Definition). q x.first) (result_definitions l.id 0 l.head.results l.head.result_types) (region_definitions l.id 0 l.arguments)
    ∙ (λ i. pass_results q l.id false t.results 0 l.head.results l.head.result_types i ++ refuse_regions q l.id t.arguments 0 l.arguments i)

pub refuse_rows : (q : Val → Bool) (n : ℕ) (ls : List Laid) → AllAt (λ k l. Refused q l) n ls → filter (λ (x : Definition). q x.first) (flat_map row_definitions ls) ≡ []
refuse_rows q n [] all = refl
refuse_rows q n (l ∷ ls) all =
    filter-append (λ (x : Definition). q x.first) (row_definitions l) (flat_map row_definitions ls)
    ∙ (λ i. refuse_row q l all.0 i ++ refuse_rows q (suc n) ls all.1 i)

-- ---- the row itself

-- how many values names have together
abbrev pub total : List SynResult → ℕ
total [] = 0
total (r ∷ rs) = r.count + total rs

abbrev pub ArePositive : List SynResult → Type 0
ArePositive rs = list_all (λ (r : SynResult). nat_lt 0 r.count) rs ≡ true

pub first_positive : (a b : Bool) → (a && b) ≡ true → (a ≡ true) × (b ≡ true)
first_positive true b p = (refl, p)
first_positive false b p = absurd (cc)

pass_behind : (q : Val → Bool) (n o : ℕ) → ((k : ℕ) → q (Res n k) ≡ nat_lt k o) → (at : ℕ) (rs : List SynResult) (ts : List Ty) → o ≤ at → filter (λ (x : Definition). q x.first) (result_definitions n at rs ts) ≡ []
pass_behind q n o is at [] ts p = refl
pass_behind q n o is at (r ∷ rs) ts p =
    all_or_none false (q (Res n at)) _ [] _ (is at ∙ grind (arith, nat_tests, p)) (pass_behind q n o is (at + r.count) rs _ (omega (arith, p)))

below_sum : (at c s o : ℕ) → nat_lt 0 c ≡ true → at + (c + s) ≡ o → nat_lt at o ≡ true
below_sum at c s o p q = grind (arith, nat_tests, p, q)

pass_front : (q : Val → Bool) (n o : ℕ) → ((k : ℕ) → q (Res n k) ≡ nat_lt k o) → (at : ℕ) (taken rest : List SynResult) (ts : List Ty) → ArePositive taken → at + total taken ≡ o
    → filter (λ (x : Definition). q x.first) (result_definitions n at (taken ++ rest) ts) ≡ result_definitions n at taken ts
pass_front q n o is at [] rest ts pos p = pass_behind q n o is at rest ts (omega (arith, p))
pass_front q n o is at (t ∷ taken) rest ts pos p =
    let both_pos = first_positive (nat_lt 0 t.count) (list_all (λ (r : SynResult). nat_lt 0 r.count) taken) pos in
    all_or_none true (q (Res n at)) _ (result_definitions n (at + t.count) taken (drop t.count ts)) _ (is at ∙ below_sum at t.count (total taken) o both_pos.0 p)
    (pass_front q n o is (at + t.count) taken rest (drop t.count ts) both_pos.1 (omega (arith, p)))

-- ---- the homes of rows

module _ (o : Operation) where
  pub homes_of : AllAt (λ k l. home_of (bare_rows (tree o)) l.id ≡ l.home) 0 (tree o)
  homes_of = all_from (λ k l. home_of (bare_rows (tree o)) l.id ≡ l.home) 0 (tree o) (λ k q.
      let number : (get_or (tree o) k blank).id ≡ k = fact_of IsNumber (tree o) k blank (operation_numbers 0 None o) q in
      ap (home_of (bare_rows (tree o))) number ∙ ap (option_and_then (λ (r : Row). r.home)) (row_of_is no_values o k q))

  abbrev pub Told : ℕ → Laid → Type 0
  Told k l = Placed k l × (home_of (bare_rows (tree o)) l.id ≡ l.home)

  pub told : AllAt Told 0 (tree o)
  told = both Placed (λ k l. home_of (bare_rows (tree o)) l.id ≡ l.home) 0 (tree o) (placed o) homes_of

  abbrev pub test : Home → Val → Val → Bool
  test h v x = is_of_region (bare_rows (tree o)) h x && is_made_before x v

  pub named_by_filter : (h : Home) (name : List ℕ) (v : Val) → is_named_before (tree o) h name v ≡ is_some (find_name name (filter (λ (x : Definition). test h v x.first) (flat_map row_definitions (tree o))))
  unfolding is_named_before definitions
  named_by_filter h name v =
      any_found (λ (d : Definition). bytes_eq d.name name && test h v d.first) (flat_map row_definitions (tree o))
      ∙ ap is_some (find_passed name (test h v) (flat_map row_definitions (tree o)))

  pub split : (q : Val → Bool) (pre rest : List Laid) (l : Laid) → tree o ≡ pre ++ l ∷ rest
      → filter (λ (x : Definition). q x.first) (flat_map row_definitions (tree o))
      ≡ filter (λ (x : Definition). q x.first) (flat_map row_definitions pre)
      ++ (filter (λ (x : Definition). q x.first) (row_definitions l) ++ filter (λ (x : Definition). q x.first) (flat_map row_definitions rest))
  split q pre rest l e =
      ap (λ ls. filter (λ (x : Definition). q x.first) (flat_map row_definitions ls)) e
      ∙ (ap (filter (λ (x : Definition). q x.first)) (flat_map-append row_definitions pre (l ∷ rest))
      ∙ (filter-append (λ (x : Definition). q x.first) (flat_map row_definitions pre) (row_definitions l ++ flat_map row_definitions rest)
      ∙ ap (λ ds. filter (λ (x : Definition). q x.first) (flat_map row_definitions pre) ++ ds) (filter-append (λ (x : Definition). q x.first) (row_definitions l) (flat_map row_definitions rest))))

  -- ---- before a result of row n, which stands in this region

  module _ (pre rest : List Laid) (n k : ℕ) (home : Home) (hs : List Home) (l : Laid) (e : tree o ≡ pre ++ l ∷ rest) (len : length pre ≡ n) (number : l.id ≡ n) (is_home : l.home ≡ Some home) (out : Outward n (home ∷ hs)) where
    earlier_result : (home x : Home) (a : Bool) (d n k : ℕ) (hs : List Home) → d < n → x.row < d → list_any (λ (y : Home). y.row == d) hs ≡ false
        → (home_eq home x && (nat_lt d n || ((d == n) && a))) ≡ (home_eq home x && (nat_lt d n && (list_any (home_eq x) (home ∷ hs) && not (list_any (λ (y : Home). y.row == d) (home ∷ hs)))))
    earlier_result home x a d n k hs p q none = grind (arith, nat_tests, p, q, none)

    argument_in : (home : Home) (d g : ℕ) (hs : List Home) → (home_eq home (region d g) && true) ≡ (home_eq home (region d g) && list_any (home_eq (region d g)) (home ∷ hs))
    argument_in home d g hs = grind (arith, nat_tests)

    of_pre : (j : ℕ) (x : Laid) → j < n → Told j x → Tested (test home (Res n k)) home (home ∷ hs) n x
    of_pre j x p t = record {
      results = λ i. ap (λ h. option_map_or (home_eq home) h false && (nat_lt x.id n || ((x.id == n) && nat_lt i k))) t.1 ∙ by_home i x.home refl;
      arguments = λ g i. argument_in home x.id g hs;
    }
      where
        by_home : (i : ℕ) (h : Option Home) → x.home ≡ h
            → (option_map_or (home_eq home) h false && (nat_lt x.id n || ((x.id == n) && nat_lt i k)))
            ≡ (option_map_or (home_eq home) h false && (nat_lt x.id n && (option_map_or (λ y. list_any (home_eq y) (home ∷ hs)) h false && not (list_any (λ y. y.row == x.id) (home ∷ hs)))))
        by_home i None is = refl
        by_home i (Some h) is = by_test (home_eq home h) refl
          where
            by_test : (b : Bool) → home_eq home h ≡ b
                → (home_eq home h && (nat_lt x.id n || ((x.id == n) && nat_lt i k)))
                ≡ (home_eq home h && (nat_lt x.id n && (list_any (home_eq h) (home ∷ hs) && not (list_any (λ y. y.row == x.id) (home ∷ hs)))))
            by_test true same =
                let row : home.row ≡ h.row = grind (arith, nat_tests, same) in
                let before : h.row < x.id = omega (arith, t.0.1.before h is, t.0.0) in
                earlier_result home h (nat_lt i k) x.id n k hs (omega (arith, t.0.0, p)) before (no_row_around home.row x.id hs (omega (arith, row, before)) out.1)
            by_test false other =
                (λ i'. other i' && (nat_lt x.id n || ((x.id == n) && nat_lt i k)))
                ∙ sym (λ i'. other i' && (nat_lt x.id n && (list_any (home_eq h) (home ∷ hs) && not (list_any (λ y. y.row == x.id) (home ∷ hs)))))

    late_result : (a c : Bool) (d n : ℕ) → n < d → (a && (nat_lt d n || ((d == n) && c))) ≡ false
    late_result a c d n p = grind (arith, nat_tests, p)

    late_argument : (home : Home) (d g : ℕ) → home.row < d → (home_eq home (region d g) && true) ≡ false
    late_argument home d g p = grind (arith, nat_tests, p)

    of_rest : (j : ℕ) (x : Laid) → n < j → Told j x → Refused (test home (Res n k)) x
    of_rest j x p t = record {
      results = λ i. late_result (option_map_or (home_eq home) (home_of (bare_rows (tree o)) x.id) false) (nat_lt i k) x.id n (omega (arith, t.0.0, p));
      arguments = λ g i. late_argument home x.id g (omega (arith, t.0.0, p, out.0));
    }

    own_result : (home : Home) (n i k : ℕ) → (home_eq home home && (nat_lt n n || ((n == n) && nat_lt i k))) ≡ nat_lt i k
    own_result home n i k = grind (arith, nat_tests)

    own_passes : home_of (bare_rows (tree o)) l.id ≡ l.home → (i : ℕ) → test home (Res n k) (Res n i) ≡ nat_lt i k
    own_passes h i = (λ j. option_map_or (home_eq home) ((ap (home_of (bare_rows (tree o))) (sym number) ∙ (h ∙ is_home)) j) false && (nat_lt n n || ((n == n) && nat_lt i k))) ∙ own_result home n i k

    pub named_result : (taken left : List SynResult) (ts : List Ty) (name : List ℕ) → l.head.results ≡ taken ++ left → l.head.result_types ≡ ts → ArePositive taken → total taken ≡ k
        → is_named_before (tree o) home name (Res n k) ≡ is_some (find_name name (scene pre (home ∷ hs) n home ++ result_definitions n 0 taken ts))
    named_result taken left ts name r t pos sum =
        let q = test home (Res n k) in
        let all = subst (AllAt Told 0) e told in
        let of_l = (back Told 0 pre (l ∷ rest) all).0 in
        let behind = (back Told 0 pre (l ∷ rest) all).1 in
        let a = pass_rows q home (home ∷ hs) n 0 pre (all_weaker Told (λ j x. Tested q home (home ∷ hs) n x) 0 pre (λ j x p s f. of_pre j x (omega (arith, s, len)) f) (front Told 0 pre (l ∷ rest) all)) in
        let b = filter-append (λ (x : Definition). q x.first) (result_definitions l.id 0 l.head.results l.head.result_types) (region_definitions l.id 0 l.arguments) in
        let b1 = (λ i. filter (λ (x : Definition). q x.first) (result_definitions (number i) 0 (r i) (t i))) ∙ pass_front q n k (own_passes of_l.1) 0 taken left ts pos (omega (arith, sum)) in
        let b2 = refuse_regions q l.id (λ g i. late_argument home l.id g (omega (arith, number, out.0))) 0 l.arguments in
        let c = refuse_rows q (suc (0 + length pre)) rest (all_weaker Told (λ j x. Refused q x) (suc (0 + length pre)) rest (λ j x p s f. of_rest j x (omega (arith, p, len)) f) behind) in
        named_by_filter home name (Res n k)
        ∙ ap (λ ds. is_some (find_name name ds))
        (split q pre rest l e
        ∙ ((λ i. a i ++ ((b ∙ ((λ j. b1 j ++ b2 j) ∙ append-nil (result_definitions n 0 taken ts))) i ++ c i))
        ∙ ap (λ ds. scene pre (home ∷ hs) n home ++ ds) (append-nil (result_definitions n 0 taken ts))))
