-- Each printed name means its value.
use Rattle.std.proofs.Common.{◌≡◌, ℕ, zero, suc, ◌+◌, ◌<◌, ◌≤◌, Bool, true, false, cond, ◌&&◌, ◌||◌, List, [], ◌∷◌, length, refl, ap, sym, subst, ◌∙◌, arith, inl, inr, Option, Some, None, eqb-true}
use Rattle.std.specs.Prelude.{◌⊎◌, slice_get, ◌==◌, All, nat_lt, find}
use Rattle.std.specs.Option.{option_map_or, option_and_then, option_or}
use Rattle.std.specs.Str.{bytes_eq}
use Rattle.std.specs.List.{AllByRecursion, list_any}
use Rattle.std.proofs.lemmas.Bool.{and_parts, lt-ltb, ltb-true}
use Rattle.std.proofs.lemmas.Slice.Eq.{bytes_eq-Decides}
use Rattle.std.proofs.lemmas.Option.{none-some, same_Some}
use Rattle.mlir_tree.specs.declared.row.Home.{Home}
use Rattle.mlir_tree.specs.declared.row.Row.{Row}
use Rattle.mlir_tree.specs.declared.value.Val.{Val}
use Rattle.mlir_tree.specs.declared.value.Val.TheVariants.{Res, Arg}
use Rattle.mlir_tree.specs.Tree.{Ty}
use Rattle.mlir_tree.specs.Module.{row_of, has_result, has_argument, enclosing, is_value, is_in_scope, is_visible, IsVisible}
use Rattle.mlir_tree.specs.WellFormed.{AreDistinct, AreNested, BeginsWithModule, HasSizes}
use Rattle.mlir_print.specs.Numbering.{has_results, argument_number}
use Rattle.mlir_print.specs.ModuleText.{argument_type, value_type}
use Rattle.mlir_tree.proofs.Places.{IsAt}
use Rattle.mlir_parse.specs.declared.syn.SynUse.{SynUse}
use Rattle.mlir_attributes.specs.Steps.{max_operations}
use Rattle.mlir_resolve.specs.Laid.{Laid, bare_rows}
use Rattle.mlir_resolve.specs.Sight.{Definition, value_at, definitions, is_of_region, is_in_sight, first_in_sight, meaning_at, is_made_before, is_earlier_name, is_named_before}
use Rattle.round_trip.specs.Renumbering.{new_number, new_value}
use Rattle.round_trip.proofs.Uses.{result_name, argument_name, use_name, use_index, IsUseOf}
use Rattle.round_trip.proofs.Laying.{number_at, IsLaidAs, ArePairs}
use Rattle.round_trip.proofs.Naming.{result_def, argument_def, definitions_are, IsMade, made, IsIn, result_in, argument_in}
use Rattle.round_trip.proofs.Unique.{only_one}
use Rattle.round_trip.proofs.Moving.{Seen, seen}

-- ---- the one of a list

find_by : (t : Definition → Bool) (d x : Definition) (xs : List Definition) (b : Bool) → t x ≡ b → t d ≡ true → (b ≡ true → x ≡ d) → ((d ≡ x) ⊎ (find t xs ≡ Some d)) → cond b (Some x) (find t xs) ≡ Some d
find_by t d x xs true is pass only h = ap Some (only refl)
find_by t d x xs false is pass only (inl same) = let e : true ≡ false = sym pass ∙ ap t same ∙ is in absurd (cc)
find_by t d x xs false is pass only (inr more) = more

find_one : (rows : List Row) (t : Definition → Bool) (d : Definition) (ds : List Definition) → IsIn rows d ds → t d ≡ true → AllByRecursion (λ e. t e ≡ true → e ≡ d) ds → find t ds ≡ Some d
find_one rows t d [] h pass only = absurd h
find_one rows t d (x ∷ xs) (inl same) pass only = find_by t d x xs (t x) refl pass only.0 (inl same)
find_one rows t d (x ∷ xs) (inr more) pass only = find_by t d x xs (t x) refl pass only.0 (inr (find_one rows t d xs more pass only.1))

not_so : (b : Bool) → (b ≡ true → ⊥) → b ≡ false
not_so true h = absurd (h refl)
not_so false h = refl

find_none : (t : Definition → Bool) (d : Definition) (ds : List Definition) → t d ≡ false → AllByRecursion (λ e. t e ≡ true → e ≡ d) ds → find t ds ≡ None
find_none t d [] fails only = refl
find_none t d (x ∷ xs) fails only =
    let here : t x ≡ false = not_so (t x) (λ is. let e : true ≡ false = sym is ∙ ap t (only.0 is) ∙ fails in absurd (cc)) in
    ap (λ b. cond b (Some x) (find t xs)) here ∙ find_none t d xs fails only.1

weaker : (P Q : Definition → Type 0) (ds : List Definition) → ((e : Definition) → P e → Q e) → AllByRecursion P ds → AllByRecursion Q ds
weaker P Q [] up h = tt
weaker P Q (e ∷ ds) up h = (up e h.0, weaker P Q ds up h.1)

any_none : (t : Definition → Bool) (ds : List Definition) → AllByRecursion (λ e. t e ≡ false) ds → list_any t ds ≡ false
any_none t [] h = refl
any_none t (e ∷ ds) h = ap (λ b. b || list_any t ds) h.0 ∙ any_none t ds h.1

pub same_bytes : (w v : List ℕ) → bytes_eq w v ≡ true → w ≡ v
same_bytes w v h = (bytes_eq-Decides w v).0 h

bytes_same : (w : List ℕ) → bytes_eq w w ≡ true
bytes_same w = (bytes_eq-Decides w w).1 refl

-- ---- in sight

-- what is in sight of one definition, in the regions from the innermost on
sight_by : (bare : List Row) (ds : List Definition) (d : Definition) (h : Home) (hs : List Home) (u : ℕ) (b : Bool) → is_of_region bare h d.first ≡ b → (b ≡ true → find (is_in_sight bare h d.name u) ds ≡ Some d) → (b ≡ false → find (is_in_sight bare h d.name u) ds ≡ None)
    → (b ≡ false → first_in_sight bare ds hs d.name u ≡ Some d) → option_or (find (is_in_sight bare h d.name u) ds) (first_in_sight bare ds hs d.name u) ≡ Some d
sight_by bare ds d h hs u true is found none more = ap (λ o. option_or o (first_in_sight bare ds hs d.name u)) (found refl)
sight_by bare ds d h hs u false is found none more = ap (λ o. option_or o (first_in_sight bare ds hs d.name u)) (none refl) ∙ more refl

first_of : (bare : List Row) (ds : List Definition) (rows : List Row) (d : Definition) (u : ℕ) → IsIn rows d ds → AllByRecursion (λ e. e.name ≡ d.name → e ≡ d) ds → is_in_scope bare d.first u ≡ true
    → (hs : List Home) → list_any (λ h. is_of_region bare h d.first) hs ≡ true → first_in_sight bare ds hs d.name u ≡ Some d
first_of bare ds rows d u there only scope [] any = absurd (cc)
first_of bare ds rows d u there only scope (h ∷ hs) any =
    let once = weaker (λ e. e.name ≡ d.name → e ≡ d) (λ e. is_in_sight bare h d.name u e ≡ true → e ≡ d) ds
    (λ e one is. one (same_bytes e.name d.name (and_parts (bytes_eq e.name d.name) (is_of_region bare h e.first && is_in_scope bare e.first u) is).0)) only in
    sight_by bare ds d h hs u (is_of_region bare h d.first) refl
    (λ is. find_one rows (is_in_sight bare h d.name u) d ds there ((λ j. bytes_same d.name j && (is j && scope j))) once)
    (λ is. find_none (is_in_sight bare h d.name u) d ds ((λ j. bytes_same d.name j && (is j && is_in_scope bare d.first u))) once)
    (λ is. first_of bare ds rows d u there only scope hs (ap (λ b. b || list_any (λ k. is_of_region bare k d.first) hs) (sym is) ∙ any))

self_before : (v : Val) → is_made_before v v ≡ false
self_before (Res d k) = by_two (nat_lt d d) (irreflexive d) (d == d) (nat_lt k k) (irreflexive k)
  where
    irreflexive : (n : ℕ) → nat_lt n n ≡ false
    irreflexive n = not_so (nat_lt n n) (λ is. let less = ltb-true n n is in omega (arith, less))

    by_two : (a : Bool) → a ≡ false → (b c : Bool) → c ≡ false → (a || (b && c)) ≡ false
    by_two true h b c g = absurd (cc)
    by_two false h true c g = g
    by_two false h false c g = refl
self_before (Arg d g k) = not_so (nat_lt k k) (λ is. let less = ltb-true k k is in omega (arith, less))

pub place_of_row : (rows : List Row) (d : ℕ) (q : Row) → row_of rows d ≡ Some q → (p : ℕ) × IsAt rows p q × (q.id ≡ d)
place_of_row [] d q h = absurd (none-some q h)
place_of_row (x ∷ rows) d q h = by_first (x.id == d) refl h (place_of_row rows d q)
  where
    by_first : (b : Bool) → x.id == d ≡ b → cond b (Some x) (row_of rows d) ≡ Some q → (row_of rows d ≡ Some q → (p : ℕ) × IsAt rows p q × (q.id ≡ d)) → (p : ℕ) × IsAt (x ∷ rows) p q × (q.id ≡ d)
    by_first true is h go = (0, h, ap (λ (r : Row). r.id) (sym (same_Some x q h)) ∙ eqb-true x.id d is)
    by_first false is h go = let (p, there, same) = go h in (suc p, there, same)

module _ (rows : List Row) (apart : AreDistinct rows) (nested : AreNested rows) (begins : BeginsWithModule rows) (sizes : All HasSizes rows) (few : length rows ≤ max_operations) (ls : List Laid) (pairs : ArePairs (IsLaidAs rows) 0 rows ls)
    (bare_apart : AreDistinct (bare_rows ls)) (bare_nested : AreNested (bare_rows ls)) where
  all_are : AllByRecursion (IsMade rows) (definitions ls)
  all_are = subst (AllByRecursion (IsMade rows)) (sym (definitions_are rows ls pairs)) (made rows)

  only : (d : Definition) → IsMade rows d → AllByRecursion (λ e. e.name ≡ d.name → e ≡ d) (definitions ls)
  only d is = only_one rows apart sizes few d is (definitions ls) all_are

  -- The definition of a value, by its name.
  record Meant (v : Val) : Type 0 where
    def : Definition
    is : IsMade rows def
    there : IsIn rows def (definitions ls)
    name : def.name ≡ use_name rows v
    value : value_at def.first (use_index v) ≡ new_value rows v
    type : slice_get def.types (use_index v) ≡ value_type rows v
    scope : (u : ℕ) → is_in_scope (bare_rows ls) def.first u ≡ is_in_scope (bare_rows ls) (new_value rows v) u
    region_is : (h : Home) → is_of_region (bare_rows ls) h def.first ≡ is_of_region (bare_rows ls) h (new_value rows v)

  result_meant : (d i p : ℕ) (q : Row) → IsAt rows p q → q.id ≡ d → row_of rows d ≡ Some q → i < length q.results → Meant (Res d i)
  unfolding value_type
  result_meant d i p q at_q same found less =
      let number : p ≡ new_number rows d = sym (number_at rows apart p q at_q) ∙ ap (new_number rows) same in
      let some : has_results q ≡ true = lt-ltb 0 (length q.results) (omega (arith, less)) in
      let zero_plus : 0 + i ≡ i = omega arith in
      record {
        def = result_def rows p q;
        is = inl (record { place = p; row = q; there = at_q; some = some; is = refl });
        there = subst (IsIn rows (result_def rows p q)) (sym (definitions_are rows ls pairs)) (result_in rows p q at_q some);
        name = ap (result_name rows) same;
        value = λ j. Res (number j) (zero_plus j);
        type = ap (option_and_then (λ (r : Row). slice_get r.results i)) (sym found);
        scope = λ u. ap (λ n. is_in_scope (bare_rows ls) (Res n i) u) number;
        region_is = λ h. ap (λ n. is_of_region (bare_rows ls) h (Res n i)) number;
      }

  argument_meant : (d g i p : ℕ) (q : Row) (ts : List Ty) (t : Ty) → IsAt rows p q → q.id ≡ d → row_of rows d ≡ Some q → slice_get q.regions g ≡ Some ts → slice_get ts i ≡ Some t → Meant (Arg d g i)
  unfolding value_type
  argument_meant d g i p q ts t at_q same found region_is type_is =
      let number : p ≡ new_number rows d = sym (number_at rows apart p q at_q) ∙ ap (new_number rows) same in
      let plus_zero : i + 0 ≡ i = omega arith in
      record {
        def = argument_def rows p q g i t;
        is = inr (record { place = p; row = q; region = g; number = i; types = ts; type = t; there = at_q; region_is = region_is; type_is = type_is; is = refl });
        there = subst (IsIn rows (argument_def rows p q g i t)) (sym (definitions_are rows ls pairs)) (argument_in rows p q g i ts t at_q region_is type_is);
        name = ap (λ n. argument_name (argument_number rows n g i)) same;
        value = λ j. Arg (number j) g (plus_zero j);
        type = sym (ap (option_and_then (argument_type g i)) found ∙ ap (option_and_then (λ args. slice_get args i)) region_is ∙ type_is);
        scope = λ u. ap (λ n. is_in_scope (bare_rows ls) (Arg n g i) u) number;
        region_is = λ h. ap (λ n. is_of_region (bare_rows ls) h (Arg n g i)) number;
      }

  result_by : (d i : ℕ) (o : Option Row) → row_of rows d ≡ o → option_map_or (has_result i) o false ≡ true → Meant (Res d i)
  result_by d i None is h = absurd (cc)
  result_by d i (Some q) is h =
      let (p, at_q, same) = place_of_row rows d q is in
      result_meant d i p q at_q same is (ltb-true i (length q.results) h)

  some_argument : (i : ℕ) (o : Option (List Ty)) → option_map_or (λ args. nat_lt i (length args)) o false ≡ true → (ts : List Ty) × (o ≡ Some ts) × (i < length ts)
  some_argument i None h = absurd (cc)
  some_argument i (Some ts) h = (ts, refl, ltb-true i (length ts) h)

  some_item : (ts : List Ty) (i : ℕ) → i < length ts → (t : Ty) × (slice_get ts i ≡ Some t)
  some_item [] i less = absurd (omega arith)
  some_item (t ∷ ts) zero less = (t, refl)
  some_item (t ∷ ts) (suc i) less = some_item ts i (omega arith)

  argument_by : (d g i : ℕ) (o : Option Row) → row_of rows d ≡ o → option_map_or (has_argument g i) o false ≡ true → Meant (Arg d g i)
  argument_by d g i None is h = absurd (cc)
  argument_by d g i (Some q) is h =
      let (p, at_q, same) = place_of_row rows d q is in
      let (ts, region_is, less) = some_argument i (slice_get q.regions g) h in
      let (t, type_is) = some_item ts i less in
      argument_meant d g i p q ts t at_q same is region_is type_is

  meant : (v : Val) → is_value rows v ≡ true → Meant v
  meant (Res d i) h = result_by d i (row_of rows d) refl h
  meant (Arg d g i) h = argument_by d g i (row_of rows d) refl h

  any_same : (hs : List Home) (p q : Home → Bool) → ((h : Home) → p h ≡ q h) → list_any p hs ≡ list_any q hs
  any_same [] p q same = refl
  any_same (h ∷ hs) p q same = λ j. same h j || any_same hs p q same j

  -- ---- uses

  -- The use of a visible value means it, and has its type.
  pub record Used (k : ℕ) (v : Val) (x : SynUse) : Type 0 where
    pub def : Definition
    pub meaning : meaning_at ls k x.name ≡ Some def
    pub value : value_at def.first x.index ≡ new_value rows v
    pub type : slice_get def.types x.index ≡ value_type rows v

  used_by : (k : ℕ) (r : Row) (v : Val) (x : SynUse) → Meant v → Seen rows apart nested begins ls pairs bare_apart bare_nested (new_value rows v) k → IsUseOf rows v x → Used k v x
  unfolding meaning_at
  used_by k r v x m s is = record {
    def = m.def;
    meaning = ap (meaning_at ls k) (is.name ∙ sym m.name)
        ∙ first_of (bare_rows ls) (definitions ls) rows m.def k m.there (only m.def m.is) (m.scope k ∙ s.scope) (enclosing (bare_rows ls) k)
        (any_same (enclosing (bare_rows ls) k) (λ h. is_of_region (bare_rows ls) h m.def.first) (λ h. is_of_region (bare_rows ls) h (new_value rows v)) m.region_is ∙ s.region_is);
    value = ap (value_at m.def.first) is.index ∙ m.value;
    type = ap (slice_get m.def.types) is.index ∙ m.type;
  }

  value_there : (v : Val) (u : ℕ) → IsVisible rows v u → is_value rows v ≡ true
  unfolding is_visible
  value_there v u h = (and_parts (is_value rows v) (is_in_scope rows v u) h).0

  pub used : (k : ℕ) (r : Row) (v : Val) (x : SynUse) → IsAt rows k r → IsVisible rows v r.id → IsUseOf rows v x → Used k v x
  used k r v x at_r visible is = used_by k r v x (meant v (value_there v r.id visible)) (seen rows apart nested begins ls pairs bare_apart bare_nested k r v at_r visible) is

  -- ---- names twice

  pub not_before : (d : Definition) → IsMade rows d → (h : Home) → is_named_before ls h d.name d.first ≡ false
  unfolding is_named_before
  not_before d is h =
      any_none (is_earlier_name (bare_rows ls) h d.name d.first) (definitions ls)
      (weaker (λ e. e.name ≡ d.name → e ≡ d) (λ e. is_earlier_name (bare_rows ls) h d.name d.first e ≡ false) (definitions ls)
      (λ e one. not_so (is_earlier_name (bare_rows ls) h d.name d.first e) (λ hit.
      let parts = and_parts (bytes_eq e.name d.name) (is_of_region (bare_rows ls) h e.first && is_made_before e.first d.first) hit in
      let later = (and_parts (is_of_region (bare_rows ls) h e.first) (is_made_before e.first d.first) parts.1).1 in
      let same : e ≡ d = one (same_bytes e.name d.name parts.0) in
      let no_way : true ≡ false = sym later ∙ ap (λ (z : Definition). is_made_before z.first d.first) same ∙ self_before d.first in
      absurd (cc)))
      (only d is))
