-- No two values have one name.
use Rattle.std.proofs.Common.{◌≡◌, ◌≢◌, ℕ, zero, suc, ◌+◌, ◌<◌, ◌≤◌, ◌^◌, Bool, true, false, cond, List, [], ◌∷◌, length, take, filter, refl, ap, sym, subst, ◌∙◌, arith, inl, inr, Some}
use Rattle.std.specs.Prelude.{decimal, slice_get, unwrap_or, All, nat_lt}
use Rattle.std.specs.Option.{option_map_or}
use Rattle.std.specs.Str.Parse.{digits_value}
use Rattle.std.specs.List.{AllByRecursion}
use Rattle.std.proofs.lemmas.Bool.{ltb-true, ltb-false}
use Rattle.std.proofs.lemmas.Option.{none-some, same_Some, slice_get_within, get_or_from_slice_get}
use Rattle.std.proofs.lemmas.List.Elements.{All-get_or}
use Rattle.text_scan.specs.Bytes.{is_digit}
use Rattle.mlir_lexer.specs.Forms.{AreSome}
use Rattle.mlir_tree.specs.declared.row.Row.{Row}
use Rattle.mlir_tree.specs.Tree.{Ty}
use Rattle.mlir_tree.specs.WellFormed.{AreDistinct, HasSizes}
use Rattle.mlir_print.specs.Numbering.{has_results, with_results, arguments_of, arguments_in, result_number, argument_number}
use Rattle.mlir_tree.proofs.Places.{IsAt, found_at, same_row}
use Rattle.mlir_print.proofs.Counting.{arguments_in-more, with_results-more}
use Rattle.mlir_attributes.specs.Steps.{max_operations}
use Rattle.mlir_resolve.specs.Sight.{Definition}
use Rattle.round_trip.proofs.Decimals.{decimal_wide}
use Rattle.round_trip.proofs.Uses.{result_name, argument_name}
use Rattle.round_trip.proofs.Laying.{place_at}
use Rattle.round_trip.proofs.Ready.{result_small, argument_small, at_place}
use Rattle.round_trip.proofs.Naming.{result_def, argument_def, IsResultDef, IsArgumentDef, IsMade}

-- ---- orders

-- one of three ways
pub data Order (a b : ℕ) : Type 0 where
  below : a < b → Order a b
  equal : a ≡ b → Order a b
  above : b < a → Order a b

pub ordered : (a b : ℕ) → Order a b
ordered a b = by_test (nat_lt a b) refl (nat_lt b a) refl
  where
    by_test : (p : Bool) → nat_lt a b ≡ p → (q : Bool) → nat_lt b a ≡ q → Order a b
    by_test true less q more = below (ltb-true a b less)
    by_test false less true more = above (ltb-true b a more)
    by_test false less false more = equal (omega (arith, ltb-false a b less, ltb-false b a more))

-- ---- counts of rows

with_one : (r : Row) (rows : List Row) → with_results rows ≤ with_results (r ∷ rows)
with_one r rows = by_test (has_results r)
  where
    by_test : (b : Bool) → length (filter has_results rows) ≤ length (cond b (r ∷ filter has_results rows) (filter has_results rows))
    by_test true = omega arith
    by_test false = omega arith

with_same : (r : Row) (xs ys : List Row) → with_results xs ≤ with_results ys → with_results (r ∷ xs) ≤ with_results (r ∷ ys)
with_same r xs ys h = by_test (has_results r)
  where
    by_test : (b : Bool) → length (cond b (r ∷ filter has_results xs) (filter has_results xs)) ≤ length (cond b (r ∷ filter has_results ys) (filter has_results ys))
    by_test true = omega (arith, h)
    by_test false = h

with_more : (a b : ℕ) (rows : List Row) → a ≤ b → with_results (take a rows) ≤ with_results (take b rows)
with_more zero b rows le = omega arith
with_more (suc a) zero rows le = absurd (omega arith)
with_more (suc a) (suc b) [] le = omega arith
with_more (suc a) (suc b) (r ∷ rows) le = with_same r (take a rows) (take b rows) (with_more a b rows (omega arith))

arguments_more : (a b : ℕ) (rows : List Row) → a ≤ b → arguments_in (take a rows) ≤ arguments_in (take b rows)
arguments_more zero b rows le = omega arith
arguments_more (suc a) zero rows le = absurd (omega arith)
arguments_more (suc a) (suc b) [] le = omega arith
arguments_more (suc a) (suc b) (r ∷ rows) le = omega (arith, arguments_more a b rows (omega arith))

regions_more : (a b : ℕ) (regions : List (List Ty)) → a ≤ b → arguments_of (take a regions) ≤ arguments_of (take b regions)
regions_more zero b regions le = omega arith
regions_more (suc a) zero regions le = absurd (omega arith)
regions_more (suc a) (suc b) [] le = omega arith
regions_more (suc a) (suc b) (ts ∷ regions) le = omega (arith, regions_more a b regions (omega arith))

region_next : (regions : List (List Ty)) (g : ℕ) (ts : List Ty) → slice_get regions g ≡ Some ts → arguments_of (take (suc g) regions) ≡ arguments_of (take g regions) + length ts
region_next [] g ts h = absurd (none-some ts h)
region_next (x ∷ regions) zero ts h = omega (arith, ap length (same_Some x ts h))
region_next (x ∷ regions) (suc g) ts h = omega (arith, region_next regions g ts h)

region_all : (regions : List (List Ty)) (g : ℕ) → arguments_of (take g regions) ≤ arguments_of regions
region_all regions zero = omega arith
region_all [] (suc g) = omega arith
region_all (x ∷ regions) (suc g) = omega (arith, region_all regions g)

module _ (rows : List Row) (apart : AreDistinct rows) (sizes : All HasSizes rows) (few : length rows ≤ max_operations) where
  -- ---- numbers

  result_is : (k : ℕ) (r : Row) → IsAt rows k r → result_number rows r.id ≡ with_results (take k rows)
  unfolding result_number
  result_is k r at_r = ap (λ o. with_results (take (unwrap_or o 0) rows)) (place_at rows apart k r at_r)

  argument_is : (k : ℕ) (r : Row) (g i : ℕ) → IsAt rows k r → argument_number rows r.id g i ≡ arguments_in (take k rows) + (arguments_of (take g r.regions) + i)
  unfolding argument_number
  argument_is k r g i at_r = λ j. arguments_in (take (unwrap_or (place_at rows apart k r at_r j) 0) rows) + (option_map_or (λ (q : Row). arguments_of (take g q.regions)) (found_at rows apart k r at_r j) 0 + i)

  result_rises : (j k : ℕ) (q r : Row) → IsAt rows j q → IsAt rows k r → has_results q ≡ true → j < k → result_number rows q.id < result_number rows r.id
  result_rises j k q r at_q at_r some less =
      omega (arith, result_is j q at_q, result_is k r at_r, with_results-more rows j q at_q some, with_more (suc j) k rows less)

  -- where an argument is counted within its row
  inner : List (List Ty) → ℕ → ℕ → ℕ
  inner regions g i = arguments_of (take g regions) + i

  inner_below : (regions : List (List Ty)) (g i : ℕ) (ts : List Ty) (t : Ty) → slice_get regions g ≡ Some ts → slice_get ts i ≡ Some t → arguments_of (take g regions) + i < arguments_of (take (suc g) regions)
  inner_below regions g i ts t here type = omega (arith, region_next regions g ts here, slice_get_within ts i t type)

  argument_rises : (j k : ℕ) (q r : Row) (g h i n : ℕ) (ts : List Ty) (t : Ty) → IsAt rows j q → IsAt rows k r → slice_get q.regions g ≡ Some ts → slice_get ts i ≡ Some t → j < k → argument_number rows q.id g i < argument_number rows r.id h n
  argument_rises j k q r g h i n ts t at_q at_r here type less =
      omega (arith, argument_is j q g i at_q, argument_is k r h n at_r, inner_below q.regions g i ts t here type, region_all q.regions (suc g), arguments_in-more rows j q at_q, arguments_more (suc j) k rows less)

  region_rises : (k : ℕ) (r : Row) (g h i n : ℕ) (ts : List Ty) (t : Ty) → IsAt rows k r → slice_get r.regions g ≡ Some ts → slice_get ts i ≡ Some t → g < h → argument_number rows r.id g i < argument_number rows r.id h n
  region_rises k r g h i n ts t at_r here type less =
      omega (arith, argument_is k r g i at_r, argument_is k r h n at_r, inner_below r.regions g i ts t here type, regions_more (suc g) h r.regions less)

  -- ---- names

  decimal_same : (a b : ℕ) → a < 10 ^ 64 → b < 10 ^ 64 → decimal a ≡ decimal b → a ≡ b
  decimal_same a b p q e = sym (decimal_wide a p).value ∙ ap (digits_value 10) e ∙ (decimal_wide b q).value

  digit_no_letter : (c : ℕ) → is_digit c ≡ true → c ≢ 97
  digit_no_letter c h e = let no : is_digit 97 ≡ true = subst (λ x. is_digit x ≡ true) e h in cc

  first_of_list : List ℕ → ℕ
  first_of_list [] = 0
  first_of_list (b ∷ bs) = b

  no_argument : (ds : List ℕ) (n : ℕ) → AreSome is_digit ds → ds ≡ argument_name n → ⊥
  no_argument [] n h e = h
  no_argument (d ∷ ds) n h e = digit_no_letter d h.0 (ap first e)
    where
      first : List ℕ → ℕ
      first [] = 0
      first (b ∷ bs) = b

  argument_same : (a b : ℕ) → a < 10 ^ 64 → b < 10 ^ 64 → argument_name a ≡ argument_name b → a ≡ b
  argument_same a b p q e = decimal_same a b p q (ap behind e)
    where
      behind : List ℕ → List ℕ
      behind (a ∷ (b ∷ (c ∷ rest))) = rest
      behind _ = []

  few_at : (k : ℕ) (r : Row) (g i : ℕ) (ts : List Ty) (t : Ty) → IsAt rows k r → slice_get r.regions g ≡ Some ts → slice_get ts i ≡ Some t → i < 2 ^ 16
  few_at k r g i ts t at_r here type =
      let size = (at_place HasSizes rows sizes k r at_r).arguments in
      let many : length ts < 2 ^ 16 = subst (λ xs. length xs < 2 ^ 16) (get_or_from_slice_get r.regions g ts ts here) (All-get_or (λ xs. length xs < 2 ^ 16) r.regions g ts (slice_get_within r.regions g ts here) size) in
      omega (arith, slice_get_within ts i t type, many)

  -- ---- one definition of a name

  results_same : (d e : Definition) (x : IsResultDef rows d) (y : IsResultDef rows e) → result_number rows x.row.id ≡ result_number rows y.row.id → d ≡ e
  results_same d e x y same = elim (ordered x.place y.place) [
    | below less ↦ absurd (let up = result_rises x.place y.place x.row y.row x.there y.there x.some less in omega (arith, same, up))
    | above more ↦ absurd (let up = result_rises y.place x.place y.row x.row y.there x.there y.some more in omega (arith, same, up))
    | equal place ↦
        let row : x.row ≡ y.row = same_row rows y.place x.row y.row (subst (λ n. IsAt rows n x.row) place x.there) y.there in
        x.is ∙ (λ j. result_def rows (place j) (row j)) ∙ sym y.is
  ]

  types_same : (k : ℕ) (r : Row) (g i : ℕ) (ts us : List Ty) (t u : Ty) → slice_get r.regions g ≡ Some ts → slice_get r.regions g ≡ Some us → slice_get ts i ≡ Some t → slice_get us i ≡ Some u → t ≡ u
  types_same k r g i ts us t u a b c d =
      let lists : ts ≡ us = same_Some ts us (sym a ∙ b) in
      same_Some t u (sym c ∙ ap (λ xs. slice_get xs i) lists ∙ d)

  numbers_same : (k : ℕ) (r : Row) (g i n : ℕ) (ts us : List Ty) (t u : Ty) → IsAt rows k r → slice_get r.regions g ≡ Some ts → slice_get r.regions g ≡ Some us → slice_get ts i ≡ Some t → slice_get us n ≡ Some u → argument_number rows r.id g i ≡ argument_number rows r.id g n
      → argument_def rows k r g i t ≡ argument_def rows k r g n u
  numbers_same k r g i n ts us t u at_r a b c d same =
      let equal : i ≡ n = omega (arith, argument_is k r g i at_r, argument_is k r g n at_r, same) in
      let type : t ≡ u = types_same k r g n ts us t u a b (subst (λ j. slice_get ts j ≡ Some t) equal c) d in
      λ j. argument_def rows k r g (equal j) (type j)

  in_row : (k : ℕ) (r : Row) (g h i n : ℕ) (ts us : List Ty) (t u : Ty) → IsAt rows k r → slice_get r.regions g ≡ Some ts → slice_get r.regions h ≡ Some us → slice_get ts i ≡ Some t → slice_get us n ≡ Some u → argument_number rows r.id g i ≡ argument_number rows r.id h n
      → argument_def rows k r g i t ≡ argument_def rows k r h n u
  in_row k r g h i n ts us t u at_r a b c d same = elim (ordered g h) [
    | below less ↦ absurd (let up = region_rises k r g h i n ts t at_r a c less in omega (arith, same, up))
    | above more ↦ absurd (let up = region_rises k r h g n i us u at_r b d more in omega (arith, same, up))
    | equal region ↦
        numbers_same k r g i n ts us t u at_r a (subst (λ j. slice_get r.regions j ≡ Some us) (sym region) b) c d (same ∙ ap (λ j. argument_number rows r.id j n) (sym region))
        ∙ ap (λ j. argument_def rows k r j n u) region
  ]

  arguments_same : (d e : Definition) (x : IsArgumentDef rows d) (y : IsArgumentDef rows e) → argument_number rows x.row.id x.region x.number ≡ argument_number rows y.row.id y.region y.number → d ≡ e
  arguments_same d e x y same = elim (ordered x.place y.place) [
    | below less ↦ absurd (let up = argument_rises x.place y.place x.row y.row x.region y.region x.number y.number x.types x.type x.there y.there x.region_is x.type_is less in omega (arith, same, up))
    | above more ↦ absurd (let up = argument_rises y.place x.place y.row x.row y.region x.region y.number x.number y.types y.type y.there x.there y.region_is y.type_is more in omega (arith, same, up))
    | equal place ↦
        let row : x.row ≡ y.row = same_row rows y.place x.row y.row (subst (λ n. IsAt rows n x.row) place x.there) y.there in
        x.is
        ∙ (λ j. argument_def rows (place j) (row j) x.region x.number x.type)
        ∙ in_row y.place y.row x.region y.region x.number y.number x.types y.types x.type y.type y.there (subst (λ (r : Row). slice_get r.regions x.region ≡ Some x.types) row x.region_is) y.region_is x.type_is y.type_is
        (ap (λ (r : Row). argument_number rows r.id x.region x.number) (sym row) ∙ same)
        ∙ sym y.is
  ]

  pub same_name : (d e : Definition) → IsMade rows d → IsMade rows e → d.name ≡ e.name → d ≡ e
  same_name d e (inl x) (inl y) same =
      let names : result_name rows x.row.id ≡ result_name rows y.row.id = ap (λ (z : Definition). z.name) (sym x.is) ∙ same ∙ ap (λ (z : Definition). z.name) y.is in
      results_same d e x y (decimal_same (result_number rows x.row.id) (result_number rows y.row.id) (result_small rows few x.row.id) (result_small rows few y.row.id) names)
  same_name d e (inl x) (inr y) same =
      let names : result_name rows x.row.id ≡ argument_name (argument_number rows y.row.id y.region y.number) = ap (λ (z : Definition). z.name) (sym x.is) ∙ same ∙ ap (λ (z : Definition). z.name) y.is in
      absurd (no_argument (result_name rows x.row.id) (argument_number rows y.row.id y.region y.number) (decimal_wide (result_number rows x.row.id) (result_small rows few x.row.id)).some names)
  same_name d e (inr x) (inl y) same =
      let names : result_name rows y.row.id ≡ argument_name (argument_number rows x.row.id x.region x.number) = ap (λ (z : Definition). z.name) (sym y.is) ∙ sym same ∙ ap (λ (z : Definition). z.name) x.is in
      absurd (no_argument (result_name rows y.row.id) (argument_number rows x.row.id x.region x.number) (decimal_wide (result_number rows y.row.id) (result_small rows few y.row.id)).some names)
  same_name d e (inr x) (inr y) same =
      let names : argument_name (argument_number rows x.row.id x.region x.number) ≡ argument_name (argument_number rows y.row.id y.region y.number) = ap (λ (z : Definition). z.name) (sym x.is) ∙ same ∙ ap (λ (z : Definition). z.name) y.is in
      arguments_same d e x y (argument_same (argument_number rows x.row.id x.region x.number) (argument_number rows y.row.id y.region y.number)
      (argument_small rows sizes few x.row.id x.region x.number (few_at x.place x.row x.region x.number x.types x.type x.there x.region_is x.type_is))
      (argument_small rows sizes few y.row.id y.region y.number (few_at y.place y.row y.region y.number y.types y.type y.there y.region_is y.type_is)) names)

  -- the definition of a name
  pub only_one : (d : Definition) → IsMade rows d → (ds : List Definition) → AllByRecursion (IsMade rows) ds → AllByRecursion (λ e. e.name ≡ d.name → e ≡ d) ds
  only_one d is [] all = tt
  only_one d is (e ∷ ds) all = (same_name e d all.0 is, only_one d is ds all.1)
