-- The tree of a printable module has what its reading rests on.
use Rattle.std.proofs.Common.{◌≡◌, ℕ, zero, suc, ◌+◌, ◌-◌, ◌*◌, ◌<◌, ◌≤◌, ◌^◌, Bool, true, false, cond, not, ◌&&◌, ◌||◌, if◌then◌else◌, List, [], ◌∷◌, length, take, get_or, refl, ap, sym, subst, ◌∙◌, arith, Option, Some, None, length-take}
use Rattle.std.specs.Prelude.{All, IfSome, nat_lt, slice_get, unwrap_or, ◌==◌, find}
use Rattle.std.specs.Option.{option_map_or, option_and_then}
use Rattle.std.specs.List.{AllByRecursion, list_any}
use Rattle.std.proofs.lemmas.Bool.{and_parts, ltb-true, ltb-false, ne_eqb}
use Rattle.std.proofs.lemmas.List.Filters.{length-filter_both}
use Rattle.std.proofs.lemmas.List.Elements.{All-get_or, All-head, All-tail}
use Rattle.std.proofs.lemmas.Option.{slice_get-get_or, slice_get_within, get_or_from_slice_get, same_Some, none-some}
use Rattle.mlir_tree.specs.declared.row.Row.{Row}
use Rattle.mlir_tree.specs.declared.row.Home.{Home}
use Rattle.mlir_tree.specs.declared.rows.Rows.{Rows}
use Rattle.mlir_tree.specs.declared.value.Val.{Val}
use Rattle.mlir_tree.specs.declared.value.Val.TheVariants.{Res, Arg}
use Rattle.mlir_tree.specs.Tree.{Ty, index, tys, Attr, entries}
use Rattle.mlir_tree.specs.Module.{row_of, has_result, has_argument, is_value, is_visible, IsVisible}
use Rattle.mlir_tree.specs.WellFormed.{HasSizes, HasDictionaries, HasVisibleOperands}
use Rattle.mlir_print.specs.Text.{stands_bare}
use Rattle.mlir_print.specs.Numbering.{has_results, with_results, arguments_of, arguments_in, place_of, rows_before, result_number, argument_number}
use Rattle.mlir_print.specs.ModuleText.{is_group, is_empty, argument_type, value_type}
use Rattle.mlir_print.proofs.Counting.{few_of_row}
use Rattle.mlir_tree.proofs.Places.{IsAt}
use Rattle.mlir_attributes.specs.Types.{max_open}
use Rattle.mlir_attributes.specs.Steps.{max_operations}
use Rattle.round_trip.specs.Printable.{IsPrintableTy, ArePrintableTys, ArePrintableEntries}
use Rattle.round_trip.specs.PrintableRows.{room_of, some_arguments, IsPrintableRow, IsPrintable}
use Rattle.round_trip.proofs.Parts.{Facts}
use Rattle.round_trip.proofs.Uses.{IsUsable}
use Rattle.round_trip.proofs.Results.{HasType}
use Rattle.round_trip.proofs.RowTree.{Tree, node, Branches, no_branches, branch_then, Trees, no_trees, tree_then, arguments_in as branch_arguments, ArePropertiesReady, IsRowReady, IsArgumentReady, AreArgumentsReady, IsReady, AreRegionsReady, AreReady}
use Rattle.round_trip.proofs.Forest.{IsPlaced, IsSound, AreRegionsSound, AreSound}

-- ---- rows of a list

pub at_place : (P : Row → Type 0) (rows : List Row) → All P rows → (j : ℕ) (r : Row) → IsAt rows j r → P r
at_place P rows all j r at_r = subst P (get_or_from_slice_get rows j r r at_r) (All-get_or P rows j r (slice_get_within rows j r at_r) all)

found_by : (P : Row → Type 0) (d : ℕ) (x : Row) (rows : List Row) (q : Row) (b : Bool) → P x → (find (λ r. r.id == d) rows ≡ Some q → P q) → cond b (Some x) (find (λ r. r.id == d) rows) ≡ Some q → P q
found_by P d x rows q true here more h = subst P (same_Some x q h) here
found_by P d x rows q false here more h = more h

pub found : (P : Row → Type 0) (rows : List Row) → All P rows → (d : ℕ) (q : Row) → row_of rows d ≡ Some q → P q
found P [] all d q h = absurd (none-some q h)
found P (x ∷ rows) all d q h = found_by P d x rows q (x.id == d) (All-head P x rows all) (λ e. found P rows (All-tail P x rows all) d q e) h

-- ---- numbers are small

filtered : (rows : List Row) → with_results rows ≤ length rows
filtered rows = omega (arith, length-filter_both has_results (λ r. not (has_results r)) (λ r. refl) rows)

taken : (n : ℕ) (rows : List Row) → length (take n rows) ≤ length rows
taken n rows = omega (arith, length-take n rows)

pub result_small : (rows : List Row) → length rows ≤ max_operations → (d : ℕ) → result_number rows d < 10 ^ 64
unfolding result_number
result_small rows few d = omega (arith, filtered (rows_before rows d), taken (unwrap_or (place_of rows d) 0) rows, few)

regions_taken : (g : ℕ) (regions : List (List Ty)) → arguments_of (take g regions) ≤ arguments_of regions
regions_taken zero regions = omega arith
regions_taken (suc g) [] = omega arith
regions_taken (suc g) (xs ∷ regions) = omega (arith, regions_taken g regions)

rows_taken : (n : ℕ) (rows : List Row) → arguments_in (take n rows) ≤ arguments_in rows
rows_taken zero rows = omega arith
rows_taken (suc n) [] = omega arith
rows_taken (suc n) (r ∷ rows) = omega (arith, rows_taken n rows)

few_arguments : (rows : List Row) → All HasSizes rows → arguments_in rows ≤ length rows * 2 ^ 32
few_arguments [] sizes = omega arith
few_arguments (r ∷ rows) sizes = omega (arith, few_of_row r (All-head HasSizes r rows sizes), few_arguments rows (All-tail HasSizes r rows sizes))

own_by : (rows : List Row) → All HasSizes rows → (g d : ℕ) (o : Option Row) → row_of rows d ≡ o → option_map_or (λ r. arguments_of (take g r.regions)) o 0 ≤ 2 ^ 32
own_by rows sizes g d None is = omega arith
own_by rows sizes g d (Some q) is = omega (arith, regions_taken g q.regions, few_of_row q (found HasSizes rows sizes d q is))

pub argument_small : (rows : List Row) → All HasSizes rows → length rows ≤ max_operations → (d g i : ℕ) → i < 2 ^ 16 → argument_number rows d g i < 10 ^ 64
unfolding argument_number
argument_small rows sizes few d g i less =
    omega (arith, rows_taken (unwrap_or (place_of rows d) 0) rows, few_arguments rows sizes, own_by rows sizes g d (row_of rows d) refl, few, less)

-- ---- values

-- any type
first : Ty
first = index

module _ (rows : List Row) (sizes : All HasSizes rows) (few : length rows ≤ max_operations) where
  -- a value of some type that can be printed
  record Value (v : Val) : Type 0 where
    usable : IsUsable rows v
    type : Ty
    type_is : value_type rows v ≡ Some type

  result_by : (d i : ℕ) (o : Option Row) → row_of rows d ≡ o → option_map_or (has_result i) o false ≡ true → Value (Res d i)
  unfolding value_type
  result_by d i None is h = absurd (cc)
  result_by d i (Some q) is h =
      let less : i < length q.results = ltb-true i (length q.results) h in
      let many = (found HasSizes rows sizes d q is).results in
      record {
        usable = (
          result_small rows few d,
          omega (arith, less, many),
          λ single.
              let one : nat_lt 1 (length q.results) ≡ false = sym (ap (λ o. option_map_or is_group o false) is) ∙ single in
              omega (arith, less, ltb-false 1 (length q.results) one),
        );
        type = get_or q.results i first;
        type_is = ap (λ o. option_and_then (λ r. slice_get r.results i) o) is ∙ slice_get-get_or q.results i first less;
      }

  argument_type_by : (i : ℕ) (o : Option (List Ty)) → option_map_or (λ args. nat_lt i (length args)) o false ≡ true → (t : Ty) × (option_and_then (λ args. slice_get args i) o ≡ Some t)
  argument_type_by i None h = absurd (cc)
  argument_type_by i (Some args) h = (get_or args i first, slice_get-get_or args i first (ltb-true i (length args) h))

  few_by : (regions : List (List Ty)) → All (λ args. length args < 2 ^ 16) regions → (g i : ℕ) (o : Option (List Ty)) → slice_get regions g ≡ o → option_map_or (λ args. nat_lt i (length args)) o false ≡ true → i < 2 ^ 16
  few_by regions all g i None is h = absurd (cc)
  few_by regions all g i (Some args) is h =
      let many : length args < 2 ^ 16 = subst (λ xs. length xs < 2 ^ 16) (get_or_from_slice_get regions g args args is) (All-get_or (λ xs. length xs < 2 ^ 16) regions g args (slice_get_within regions g args is) all) in
      omega (arith, ltb-true i (length args) h, many)

  argument_by : (d g i : ℕ) (o : Option Row) → row_of rows d ≡ o → option_map_or (has_argument g i) o false ≡ true → Value (Arg d g i)
  unfolding value_type
  argument_by d g i None is h = absurd (cc)
  argument_by d g i (Some q) is h =
      let (t, there) = argument_type_by i (slice_get q.regions g) h in
      record {
        usable = argument_small rows sizes few d g i (few_by q.regions (found HasSizes rows sizes d q is).arguments g i (slice_get q.regions g) refl h);
        type = t;
        type_is = ap (λ o. option_and_then (argument_type g i) o) is ∙ there;
      }

  value : (v : Val) → is_value rows v ≡ true → Value v
  value (Res d i) h = result_by d i (row_of rows d) refl h
  value (Arg d g i) h = argument_by d g i (row_of rows d) refl h

  seen : (v : Val) (u : ℕ) → IsVisible rows v u → is_value rows v ≡ true
  unfolding is_visible
  seen v u h = (and_parts (is_value rows v) _ h).0

  usable_from : (u i : ℕ) (vs : List Val) → All (λ v. IsVisible rows v u) vs → Facts (λ j v. IsUsable rows v) i vs
  usable_from u i [] all = tt
  usable_from u i (v ∷ vs) all =
      ((value v (seen v u (All-head (λ w. IsVisible rows w u) v vs all))).usable, usable_from u (suc i) vs (All-tail (λ w. IsVisible rows w u) v vs all))

  typed_from : (room u i : ℕ) (vs : List Val) → All (λ v. IsVisible rows v u) vs → AllByRecursion (λ v. IfSome (value_type rows v) (IsPrintableTy room)) vs → Facts (λ j v. HasType rows room v) i vs
  typed_from room u i [] all types = tt
  typed_from room u i (v ∷ vs) all types =
      let w = value v (seen v u (All-head (λ w. IsVisible rows w u) v vs all)) in (
        record { type = w.type; is = w.type_is; printable = subst (λ o. IfSome o (IsPrintableTy room)) w.type_is types.0 },
        typed_from room u (suc i) vs (All-tail (λ w. IsVisible rows w u) v vs all) types.1,
      )

  -- ---- rows

  room_by : (b c : Bool) (room : ℕ) → (if b then 3 else (if c then 1 else 2)) ≤ room → 1 ≤ room
  room_by true c room h = omega arith
  room_by false true room h = h
  room_by false false room h = omega arith

  two_by : (b c : Bool) (room : ℕ) → c ≡ false → (if b then 3 else (if c then 1 else 2)) ≤ room → 2 ≤ room
  two_by true c room other h = omega arith
  two_by false true room other h = absurd (cc)
  two_by false false room other h = h

  no_both : (a b : Bool) → b ≡ false → (a && b) ≡ false
  no_both true b h = h
  no_both false b h = refl

  properties_from : (room : ℕ) (es : List (List ℕ × Attr)) → (is_empty es ≡ false → 2 ≤ room) → ArePrintableEntries (room - 2) (entries es) → ArePropertiesReady (room - 1) es
  properties_from room [] two h = tt
  properties_from room (e ∷ es) two h =
      let many = two (ne_eqb (length (e ∷ es)) 0 (λ z. omega arith)) in
      (room - 2, omega (arith, many), h)

  row_ready : (room : ℕ) (r : Row) → IsPrintableRow rows room r → HasSizes r → HasDictionaries r → HasVisibleOperands rows r → IsRowReady rows (room - 1) r
  row_ready room r p few_parts dicts visible =
      let one = room_by (some_arguments r) (is_empty r.regions && is_empty r.props) room p.fits in
      let same : suc (room - 1) ≡ room = omega (arith, one) in
      record {
        name = p.name;
        named = p.named;
        number = result_small rows few r.id;
        usable = usable_from r.id 0 r.operands visible;
        typed = typed_from (room - 1) r.id 0 r.operands visible p.operands;
        few_operands = omega (arith, few_parts.operands);
        few_results = omega (arith, few_parts.results);
        few_regions = omega (arith, few_parts.regions);
        results = subst (λ n. ArePrintableTys (if stands_bare (tys r.results) then n else room - 1) (tys r.results)) (sym same) p.results;
        rising_properties = dicts.properties;
        properties = properties_from room r.props (λ some. two_by (some_arguments r) (is_empty r.regions && is_empty r.props) room (no_both (is_empty r.regions) (is_empty r.props) some) p.fits) p.properties;
        rising_attributes = dicts.attributes;
        attributes = p.attributes;
      }

  -- ---- regions

  arguments_from : (room d g i : ℕ) (ts : List Ty) → i + length ts < 2 ^ 16 → ArePrintableTys room (tys ts) → Facts (IsArgumentReady rows room d g) i ts
  arguments_from room d g i [] less h = tt
  arguments_from room d g i (t ∷ ts) less h = ((argument_small rows sizes few d g i (omega arith), h.0), arguments_from room d g (suc i) ts (omega arith) h.1)

  arguments_ready : (room d g : ℕ) (ts : List Ty) → 2 ≤ room → (0 < length ts → 3 ≤ room) → length ts < 2 ^ 16 → ArePrintableTys (room - 3) (tys ts) → AreArgumentsReady rows (room - 2) d g ts
  arguments_ready room d g [] two three less h = tt
  arguments_ready room d g (t ∷ ts) two three less h =
      (room - 3, omega (arith, three (omega arith)), omega (arith, less), arguments_from (room - 3) d g 0 (t ∷ ts) (omega (arith, less)) h)

  -- what is known of the arguments of a region
  abbrev IsFine : ℕ → List Ty → Type 0
  IsFine room ts = (0 < length ts → 3 ≤ room) × (length ts < 2 ^ 16) × ArePrintableTys (room - 3) (tys ts)

  not_empty : (ts : List Ty) → 0 < length ts → not (is_empty ts) ≡ true
  not_empty [] h = absurd (omega arith)
  not_empty (t ∷ ts) h = ap not (ne_eqb (length (t ∷ ts)) 0 (λ z. omega arith))

  three_by : (room : ℕ) (c b : Bool) → b ≡ true → (if b then 3 else (if c then 1 else 2)) ≤ room → 3 ≤ room
  three_by room c true is h = h
  three_by room c false is h = absurd (cc)

  fine : (room : ℕ) (regions : List (List Ty)) → (list_any (λ xs. not (is_empty xs)) regions ≡ true → 3 ≤ room) → All (λ xs. length xs < 2 ^ 16) regions → AllByRecursion (λ ts. ArePrintableTys (room - 3) (tys ts)) regions → AllByRecursion (IsFine room) regions
  fine room [] three all types = tt
  fine room (ts ∷ regions) three all types = (
    ((λ some. three (or_left (not (is_empty ts)) (list_any (λ xs. not (is_empty xs)) regions) (not_empty ts some))), All-head (λ xs. length xs < 2 ^ 16) ts regions all, types.0),
    fine room regions (λ some. three (or_right (not (is_empty ts)) (list_any (λ xs. not (is_empty xs)) regions) some)) (All-tail (λ xs. length xs < 2 ^ 16) ts regions all) types.1,
  )
    where
      or_left : (a b : Bool) → a ≡ true → (a || b) ≡ true
      or_left a b h = ap (λ x. x || b) h

      or_right : (a b : Bool) → b ≡ true → (a || b) ≡ true
      or_right true b h = refl
      or_right false b h = h

  some_regions : (bs : Branches) (r : Row) → branch_arguments bs ≡ r.regions → 0 < length (branch_arguments bs) → is_empty r.regions ≡ false
  some_regions bs r same some = ne_eqb (length r.regions) 0 (λ z. omega (arith, ap length same, some))

no_and : (a b : Bool) → a ≡ false → (a && b) ≡ false
no_and a b h = ap (λ x. x && b) h

module _ (m : Rows) (p : IsPrintable m) where
  abbrev printable_at : ℕ → Row → Type 0
  printable_at room r = IsPrintableRow m.rows room r

  row_fine : (depth : ℕ) (home : Option Home) (r : Row) → IsPlaced m.rows depth home r → IsPrintableRow m.rows (max_open - 2 * depth) r × HasSizes r × HasDictionaries r × HasVisibleOperands m.rows r
  row_fine depth home r placed =
      let j = placed.place in (
        subst (λ n. IsPrintableRow m.rows (max_open - 2 * n) r) placed.depth_is (at_place (λ s. IsPrintableRow m.rows (room_of m.rows s) s) m.rows p.rows j r placed.there),
        at_place HasSizes m.rows p.well_formed.sizes j r placed.there,
        at_place HasDictionaries m.rows p.well_formed.dictionaries j r placed.there,
        at_place (HasVisibleOperands m.rows) m.rows p.well_formed.operands j r placed.there,
      )

  same_ready : (room : ℕ) (t : Tree) (n : ℕ) → room ≡ n → IsReady m.rows room t → IsReady m.rows n t
  same_ready room t n e h = subst (λ k. IsReady m.rows k t) e h

  mutual
    pub ready : (depth : ℕ) (home : Option Home) (t : Tree) → IsSound m.rows depth home t → IsReady m.rows (max_open - 2 * depth) t
    ready depth home (node r bs) (placed, args, inside) =
        let room = max_open - 2 * depth in
        let (row, few_parts, dicts, visible) = row_fine depth home r placed in
        let one : 1 ≤ room = room_by m.rows p.well_formed.sizes p.few (some_arguments r) (is_empty r.regions && is_empty r.props) room row.fits in
        let regions = fine m.rows p.well_formed.sizes p.few room r.regions (λ some. three_by m.rows p.well_formed.sizes p.few room (is_empty r.regions && is_empty r.props) (some_arguments r) some row.fits) few_parts.arguments row.arguments in (
          room - 1,
          omega (arith, one),
          row_ready m.rows p.well_formed.sizes p.few room r row few_parts dicts visible,
          args,
          regions_ready depth r.id 0 bs (λ some. two_by m.rows p.well_formed.sizes p.few (some_arguments r) (is_empty r.regions && is_empty r.props) room (no_and (is_empty r.regions) (is_empty r.props) (some_regions m.rows p.well_formed.sizes p.few bs r args some)) row.fits)
              (subst (AllByRecursion (IsFine m.rows p.well_formed.sizes p.few room)) (sym args) regions) inside,
        )

    regions_ready : (depth d g : ℕ) (bs : Branches) → (0 < length (branch_arguments bs) → 2 ≤ max_open - 2 * depth) → AllByRecursion (IsFine m.rows p.well_formed.sizes p.few (max_open - 2 * depth)) (branch_arguments bs) → AreRegionsSound m.rows (suc depth) d g bs
        → AreRegionsReady m.rows (max_open - 2 * depth - 1) d g bs
    regions_ready depth d g no_branches two fine_all sound = tt
    regions_ready depth d g (branch_then args ts bs) two fine_all sound =
        let many = two (omega arith) in (
          max_open - 2 * depth - 2,
          omega (arith, many),
          arguments_ready m.rows p.well_formed.sizes p.few (max_open - 2 * depth) d g args many fine_all.0.0 fine_all.0.1 fine_all.0.2,
          subst (λ n. AreReady m.rows n ts) (let e : max_open - 2 * suc depth ≡ max_open - 2 * depth - 2 = omega arith in e) (all_ready (suc depth) (record { row = d; region = g }) ts sound.0),
          regions_ready depth d (suc g) bs (λ some. many) fine_all.1 sound.1,
        )

    all_ready : (depth : ℕ) (home : Home) (ts : Trees) → AreSound m.rows depth home ts → AreReady m.rows (max_open - 2 * depth) ts
    all_ready depth home no_trees sound = tt
    all_ready depth home (tree_then t ts) sound = (ready depth (Some home) t sound.0, all_ready depth home ts sound.1)
