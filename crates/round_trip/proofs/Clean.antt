-- The operations that are read have no fault.
use Rattle.std.proofs.Common.{◌≡◌, ℕ, suc, ◌+◌, ◌<◌, ◌≤◌, Bool, true, false, ◌&&◌, ◌||◌, if◌then◌else◌, List, [], ◌∷◌, ◌++◌, length, map, refl, ap, sym, subst, ◌∙◌, arith, inl, inr, Option, Some, None, eq-eqb}
use Rattle.std.specs.Prelude.{slice_get, ◌==◌, All, nat_lt, filter_map, Contains}
use Rattle.std.specs.Option.{option_map, option_and_then, option_or}
use Rattle.std.specs.Ordering.{is_eq}
use Rattle.std.specs.Str.{bytes_eq}
use Rattle.std.specs.List.{cons_option}
use Rattle.std.proofs.lemmas.Bool.{lt-ltb, ltb-true}
use Rattle.std.proofs.lemmas.Cmp.{tied_itself}
use Rattle.std.proofs.lemmas.List.Elements.{All-head, All-tail}
use Rattle.std.proofs.lemmas.Option.{slice_get_within}
use Rattle.mlir_tree.specs.declared.row.Home.{Home}
use Rattle.mlir_tree.specs.declared.row.Row.{Row}
use Rattle.mlir_tree.specs.declared.value.Val.{Val}
use Rattle.mlir_tree.specs.declared.value.Val.TheVariants.{Res, Arg}
use Rattle.mlir_tree.specs.Tree.{Ty}
use Rattle.mlir_tree.specs.Order.{ty_cmp}
use Rattle.mlir_tree.specs.Codes.{ty_total}
use Rattle.mlir_tree.specs.Module.{IsVisible}
use Rattle.mlir_tree.specs.WellFormed as well
use Rattle.mlir_tree.specs.WellFormed.{AreDistinct, AreNested, BeginsWithModule, HasSizes, HasDictionaries, HasVisibleOperands}
use Rattle.mlir_print.specs.ModuleText.{value_type}
use Rattle.mlir_tree.proofs.Places.{IsAt}
use Rattle.mlir_attributes.specs.declared.fault.ModFault.{ModFault}
use Rattle.mlir_parse.specs.declared.syn.SynArg.{SynArg}
use Rattle.mlir_parse.specs.declared.syn.SynEntry.{SynEntry}
use Rattle.mlir_parse.specs.declared.syn.SynResult.{SynResult}
use Rattle.mlir_parse.specs.declared.syn.SynUse.{SynUse}
use Rattle.mlir_attributes.specs.Steps.{max_operations}
use Rattle.mlir_parse.specs.SynTree.{Head, Operation, operation, Regions, no_regions, region_then, Operations, no_operations, operation_then}
use Rattle.mlir_parse.specs.Limits.{operation_count, operations_count}
use Rattle.mlir_resolve.specs.Laid.{Laid, region, bare_rows, entry_pair, arguments_of, laid_operation, laid_regions, laid_operations}
use Rattle.mlir_resolve.specs.Sight.{Definition, value_at, is_defined, is_named_before}
use Rattle.mlir_resolve.specs.Resolving.{names_at, known_use_fault, use_fault, uses_fault, count_fault, use_type, has_type, types_fault, has_entry, least_shared, entries_fault, head_fault, twice_fault, arguments_fault, names_fault, are_counted, result_count_fault, results_fault, twice_in, operation_fault, regions_fault, operations_fault, used_value, or_then}
use Rattle.mlir_resolve.proofs.Spans.{AllAt, operation_length, operations_length}
use Rattle.round_trip.specs.Renumbering.{new_value}
use Rattle.round_trip.proofs.Parts.{Fits, fits_length}
use Rattle.round_trip.proofs.Uses.{IsUseOf, AreResultsOf}
use Rattle.round_trip.proofs.Results.{IsTypeOf}
use Rattle.round_trip.proofs.RowTree.{IsHeadOf, IsArgumentOf}
use Rattle.round_trip.proofs.Laying.{AreArgumentsOf, IsLaidAs, ArePairs}
use Rattle.round_trip.proofs.Naming.{result_def, argument_def, IsMade}
use Rattle.round_trip.proofs.Meaning.{Used, used, not_before, same_bytes}
use Rattle.round_trip.proofs.Ready.{at_place}

-- ---- no fault

pub or_none : (a b : Option ModFault) → a ≡ None → b ≡ None → or_then a b ≡ None
or_none a b x y = ap (λ o. option_or o b) x ∙ y

-- ---- dictionaries

not_so : (b : Bool) → (b ≡ true → ⊥) → b ≡ false
not_so true h = absurd (h refl)
not_so false h = refl

contains_more : (x : List ℕ) (xs : List (List ℕ)) (y : List ℕ) → Contains xs y → Contains (x ∷ xs) y
contains_more x xs y (n, less, same) = (suc n, omega (arith, less), same)

entry_there : (props : List SynEntry) (name : List ℕ) → has_entry props name ≡ true → Contains (well.names (map entry_pair props)) name
entry_there [] name h = absurd (cc)
entry_there (e ∷ props) name h = by_first (bytes_eq e.name name) refl h (entry_there props name)
  where
    by_first : (b : Bool) → bytes_eq e.name name ≡ b → (b || has_entry props name) ≡ true → (has_entry props name ≡ true → Contains (well.names (map entry_pair props)) name) → Contains (well.names (map entry_pair (e ∷ props))) name
    by_first true is h go = (0, omega arith, same_bytes e.name name is)
    by_first false is h go = contains_more e.name (well.names (map entry_pair props)) name (go h)

none_shared : (props attrs : List SynEntry) → ((name : List ℕ) → Contains (well.names (map entry_pair props)) name → Contains (well.names (map entry_pair attrs)) name → ⊥) → least_shared props attrs ≡ None
none_shared props [] apart = refl
none_shared props (e ∷ attrs) apart =
    let other : has_entry props e.name ≡ false = not_so (has_entry props e.name) (λ is. apart e.name (entry_there props e.name is) (0, omega arith, refl)) in
    rw other (none_shared props attrs (λ name a b. apart name a (contains_more e.name (well.names (map entry_pair attrs)) name b)))

module _ (rows : List Row) (apart : AreDistinct rows) (nested : AreNested rows) (begins : BeginsWithModule rows) (sizes : All HasSizes rows) (few : length rows ≤ max_operations) (ls : List Laid) (pairs : ArePairs (IsLaidAs rows) 0 rows ls)
    (bare_apart : AreDistinct (bare_rows ls)) (bare_nested : AreNested (bare_rows ls)) (visible : All (HasVisibleOperands rows) rows) (dictionaries : All HasDictionaries rows) where
  use_of : (k : ℕ) (r : Row) (v : Val) (x : SynUse) → IsAt rows k r → IsVisible rows v r.id → IsUseOf rows v x → Used rows apart nested begins sizes few ls pairs bare_apart bare_nested k v x
  use_of k r v x at_r seen is = used rows apart nested begins sizes few ls pairs bare_apart bare_nested k r v x at_r seen is

  -- ---- operands

  one_clean : (k : ℕ) (v : Val) (x : SynUse) (t : Ty) → Used rows apart nested begins sizes few ls pairs bare_apart bare_nested k v x → value_type rows v ≡ Some t → use_fault (names_at ls k) x ≡ None
  unfolding use_fault
  one_clean k v x t u type =
      let less : nat_lt x.index (length u.def.types) ≡ true = lt-ltb x.index (length u.def.types) (slice_get_within u.def.types x.index t (u.type ∙ type)) in
      ap (λ o. known_use_fault x o (is_defined ls x.name)) u.meaning ∙ rw less refl

  one_type : (k : ℕ) (v : Val) (x : SynUse) → Used rows apart nested begins sizes few ls pairs bare_apart bare_nested k v x → use_type (names_at ls k) x ≡ value_type rows v
  unfolding use_type
  one_type k v x u = ap (option_and_then (λ (d : Definition). slice_get d.types x.index)) u.meaning ∙ u.type

  one_value : (k : ℕ) (v : Val) (x : SynUse) → Used rows apart nested begins sizes few ls pairs bare_apart bare_nested k v x → used_value (names_at ls k) x ≡ Some (new_value rows v)
  one_value k v x u = ap (option_map (λ (d : Definition). value_at d.first x.index)) u.meaning ∙ ap Some u.value

  same_type : (t : Ty) → is_eq (ty_cmp t t) ≡ true
  same_type t = ap is_eq (tied_itself ty_total t)

  uses_clean : (k : ℕ) (r : Row) → IsAt rows k r → (i : ℕ) (vs : List Val) (xs : List SynUse) (ts : List Ty) → All (λ v. IsVisible rows v r.id) vs → Fits (λ j v x. IsUseOf rows v x) i vs xs → Fits (IsTypeOf rows) i vs ts → uses_fault (names_at ls k) xs ≡ None
  uses_clean k r at_r i [] [] ts seen uses types = refl
  uses_clean k r at_r i [] (x ∷ xs) ts seen uses types = absurd uses
  uses_clean k r at_r i (v ∷ vs) [] ts seen uses types = absurd uses
  uses_clean k r at_r i (v ∷ vs) (x ∷ xs) [] seen uses types = absurd types
  uses_clean k r at_r i (v ∷ vs) (x ∷ xs) (t ∷ ts) seen uses types =
      or_none (use_fault (names_at ls k) x) (uses_fault (names_at ls k) xs)
      (one_clean k v x t (use_of k r v x at_r (All-head (λ w. IsVisible rows w r.id) v vs seen) uses.0) types.0)
      (uses_clean k r at_r (suc i) vs xs ts (All-tail (λ w. IsVisible rows w r.id) v vs seen) uses.1 types.1)

  types_clean : (k : ℕ) (r : Row) → IsAt rows k r → (i : ℕ) (vs : List Val) (xs : List SynUse) (ts : List Ty) → All (λ v. IsVisible rows v r.id) vs → Fits (λ j v x. IsUseOf rows v x) i vs xs → Fits (IsTypeOf rows) i vs ts → types_fault (names_at ls k) xs ts ≡ None
  types_clean k r at_r i [] [] ts seen uses types = refl
  types_clean k r at_r i [] (x ∷ xs) ts seen uses types = absurd uses
  types_clean k r at_r i (v ∷ vs) [] ts seen uses types = absurd uses
  types_clean k r at_r i (v ∷ vs) (x ∷ xs) [] seen uses types = absurd types
  types_clean k r at_r i (v ∷ vs) (x ∷ xs) (t ∷ ts) seen uses types =
      let u = use_of k r v x at_r (All-head (λ w. IsVisible rows w r.id) v vs seen) uses.0 in
      let has : has_type (use_type (names_at ls k) x) t ≡ true = ap (λ o. has_type o t) (one_type k v x u ∙ types.0) ∙ same_type t in
      or_none (if has_type (use_type (names_at ls k) x) t then None else _) (types_fault (names_at ls k) xs ts) (rw has refl)
      (types_clean k r at_r (suc i) vs xs ts (All-tail (λ w. IsVisible rows w r.id) v vs seen) uses.1 types.1)

  pub values_are : (k : ℕ) (r : Row) → IsAt rows k r → (i : ℕ) (vs : List Val) (xs : List SynUse) → All (λ v. IsVisible rows v r.id) vs → Fits (λ j v x. IsUseOf rows v x) i vs xs → filter_map (used_value (names_at ls k)) xs ≡ map (new_value rows) vs
  values_are k r at_r i [] [] seen uses = refl
  values_are k r at_r i [] (x ∷ xs) seen uses = absurd uses
  values_are k r at_r i (v ∷ vs) [] seen uses = absurd uses
  values_are k r at_r i (v ∷ vs) (x ∷ xs) seen uses =
      let u = use_of k r v x at_r (All-head (λ w. IsVisible rows w r.id) v vs seen) uses.0 in
      λ j. cons_option (one_value k v x u j) (values_are k r at_r (suc i) vs xs (All-tail (λ w. IsVisible rows w r.id) v vs seen) uses.1 j)

  -- ---- the head of an operation

  counts_clean : (r : Row) (h : Head) → IsHeadOf rows r h → count_fault h ≡ None
  counts_clean r h is =
      let same : length h.operands ≡ length h.operand_types = fits_length (λ i v x. IsUseOf rows v x) 0 r.operands h.operands is.operands ∙ sym (fits_length (IsTypeOf rows) 0 r.operands h.operand_types is.operand_types) in
      rw (eq-eqb (length h.operands) (length h.operand_types) same) refl

  entries_clean : (r : Row) (h : Head) → IsHeadOf rows r h → HasDictionaries r → entries_fault h ≡ None
  entries_clean r h is dicts =
      ap (option_map _) (none_shared h.props h.attrs (λ name a b. dicts.apart name (subst (λ es. Contains (well.names es) name) is.props a) (subst (λ es. Contains (well.names es) name) is.attrs b)))

  head_clean : (k : ℕ) (r : Row) (h : Head) → IsAt rows k r → IsHeadOf rows r h → head_fault (names_at ls k) h ≡ None
  unfolding head_fault
  head_clean k r h at_r is =
      let seen = at_place (HasVisibleOperands rows) rows visible k r at_r in
      let dicts = at_place HasDictionaries rows dictionaries k r at_r in
      or_none (uses_fault (names_at ls k) h.operands) _ (uses_clean k r at_r 0 r.operands h.operands h.operand_types seen is.operands is.operand_types)
      (or_none (count_fault h) _ (counts_clean r h is)
      (or_none (types_fault (names_at ls k) h.operands h.operand_types) (entries_fault h) (types_clean k r at_r 0 r.operands h.operands h.operand_types seen is.operands is.operand_types) (entries_clean r h is dicts)))

  -- ---- names of results and arguments

  once : (home : Option Home) (d : Definition) → IsMade rows d → (name : List ℕ) (v : Val) → name ≡ d.name → v ≡ d.first → twice_in ls home name v ≡ false
  once None d is name v named first = refl
  once (Some h) d is name v named first =
      (λ j. is_named_before ls h (named j) (first j)) ∙ not_before rows apart nested begins sizes few ls pairs bare_apart bare_nested d is h

  no_twice : (b : Bool) (at : ℕ) → b ≡ false → twice_fault b at ≡ None
  no_twice true at h = absurd (cc)
  no_twice false at h = refl

  counted : (x : SynResult) (ts : List Ty) → 0 < length ts → x.count ≡ length ts → are_counted (x ∷ []) ts ≡ true
  counted x ts some same =
      let positive : nat_lt 0 x.count ≡ true = lt-ltb 0 x.count (omega (arith, some, same)) in
      let total : 0 + x.count ≡ length ts = omega (arith, same) in
      (λ j. (positive j && true) && (0 + x.count == length ts)) ∙ eq-eqb (0 + x.count) (length ts) total

  results_clean : (k : ℕ) (r : Row) (home : Option Home) (h : Head) (xs : List SynResult) → IsAt rows k r → h.result_types ≡ r.results → AreResultsOf rows r xs → or_then (result_count_fault xs h.result_types) (names_fault (twice_in ls home) k 0 xs) ≡ None
  results_clean k r home h [] at_r types is = refl
  results_clean k r home h (x ∷ []) at_r types (some, name, count) =
      let made : IsMade rows (result_def rows k r) = inl (record { place = k; row = r; there = at_r; some = some; is = refl }) in
      let size : 0 < length h.result_types = subst (λ ts. 0 < length ts) (sym types) (ltb-true 0 (length r.results) some) in
      or_none (result_count_fault (x ∷ []) h.result_types) (names_fault (twice_in ls home) k 0 (x ∷ []))
      (rw (counted x h.result_types size (count ∙ ap length (sym types))) refl)
      (or_none (twice_fault (twice_in ls home x.name (Res k 0)) x.at) None (no_twice (twice_in ls home x.name (Res k 0)) x.at (once home (result_def rows k r) made x.name (Res k 0) name refl)) refl)
  results_clean k r home h (x ∷ (y ∷ more)) at_r types is = absurd is

  arguments_clean : (k : ℕ) (r : Row) (g : ℕ) (all : List Ty) → IsAt rows k r → slice_get r.regions g ≡ Some all → (i : ℕ) (ts : List Ty) (xs : List SynArg) → ((j : ℕ) (t : Ty) → slice_get ts j ≡ Some t → slice_get all (i + j) ≡ Some t) → Fits (IsArgumentOf rows r.id g) i ts xs
      → arguments_fault (twice_in ls (Some (region k g))) k g i xs ≡ None
  arguments_clean k r g all at_r here i [] [] tail fits = refl
  arguments_clean k r g all at_r here i [] (x ∷ xs) tail fits = absurd fits
  arguments_clean k r g all at_r here i (t ∷ ts) [] tail fits = absurd fits
  arguments_clean k r g all at_r here i (t ∷ ts) (x ∷ xs) tail fits =
      let type : slice_get all i ≡ Some t = subst (λ n. slice_get all n ≡ Some t) (let e : i + 0 ≡ i = omega arith in e) (tail 0 t refl) in
      let made : IsMade rows (argument_def rows k r g i t) = inr (record { place = k; row = r; region = g; number = i; types = all; type = t; there = at_r; region_is = here; type_is = type; is = refl }) in
      let next : suc i ≡ i + 1 = omega arith in
      or_none (twice_fault (twice_in ls (Some (region k g)) x.name (Arg k g i)) x.at) (arguments_fault (twice_in ls (Some (region k g))) k g (i + 1) xs)
      (no_twice (twice_in ls (Some (region k g)) x.name (Arg k g i)) x.at (once (Some (region k g)) (argument_def rows k r g i t) made x.name (Arg k g i) fits.0.name refl))
      (subst (λ n. arguments_fault (twice_in ls (Some (region k g))) k g n xs ≡ None) next
      (arguments_clean k r g all at_r here (suc i) ts xs (λ j u at. subst (λ n. slice_get all n ≡ Some u) (let e : i + suc j ≡ suc i + j = omega arith in e) (tail (suc j) u at)) fits.1))

  -- ---- each operation

  abbrev AreRegionsClean : ℕ → ℕ → List (List SynArg) → Type 0
  AreRegionsClean d g [] = Unit {0}
  AreRegionsClean d g (args ∷ more) = (arguments_fault (twice_in ls (Some (region d g))) d g 0 args ≡ None) × AreRegionsClean d (suc g) more

  abbrev IsClean : ℕ → Laid → Type 0
  IsClean k l = (head_fault (names_at ls k) l.head ≡ None) × (results_fault (twice_in ls l.home) k l.head ≡ None) × AreRegionsClean k 0 l.arguments

  regions_clean : (k : ℕ) (r : Row) → IsAt rows k r → (g : ℕ) (regions : List (List Ty)) (xs : List (List SynArg)) → ((j : ℕ) (ts : List Ty) → slice_get regions j ≡ Some ts → slice_get r.regions (g + j) ≡ Some ts) → AreArgumentsOf rows r.id g regions xs → AreRegionsClean k g xs
  regions_clean k r at_r g [] [] tail is = tt
  regions_clean k r at_r g [] (x ∷ xs) tail is = absurd is
  regions_clean k r at_r g (ts ∷ regions) [] tail is = absurd is
  regions_clean k r at_r g (ts ∷ regions) (x ∷ xs) tail is =
      let here : slice_get r.regions g ≡ Some ts = subst (λ n. slice_get r.regions n ≡ Some ts) (let e : g + 0 ≡ g = omega arith in e) (tail 0 ts refl) in (
        arguments_clean k r g ts at_r here 0 ts x (λ j t at. subst (λ n. slice_get ts n ≡ Some t) (let e : j ≡ 0 + j = omega arith in e) at) is.0,
        regions_clean k r at_r (suc g) regions xs (λ j us at. subst (λ n. slice_get r.regions n ≡ Some us) (let e : g + suc j ≡ suc g + j = omega arith in e) (tail (suc j) us at)) is.1,
      )

  row_clean : (k : ℕ) (r : Row) (l : Laid) → IsLaidAs rows k r l → IsClean k l
  unfolding results_fault
  row_clean k r l is = (
    head_clean k r l.head is.there is.head,
    results_clean k r l.home l.head l.head.results is.there is.head.result_types is.head.results,
    regions_clean k r is.there 0 r.regions l.arguments (λ j ts at. subst (λ n. slice_get r.regions n ≡ Some ts) (let e : j ≡ 0 + j = omega arith in e) at) is.arguments,
  )

  all_clean : (k : ℕ) (rs : List Row) (ms : List Laid) → ArePairs (IsLaidAs rows) k rs ms → AllAt IsClean k ms
  all_clean k [] [] h = tt
  all_clean k [] (l ∷ ms) h = absurd h
  all_clean k (r ∷ rs) [] h = absurd h
  all_clean k (r ∷ rs) (l ∷ ms) h = (row_clean k r l h.0, all_clean (suc k) rs ms h.1)

  split : (n m : ℕ) (xs ys : List Laid) → n + length xs ≡ m → AllAt IsClean n (xs ++ ys) → AllAt IsClean n xs × AllAt IsClean m ys
  split n m [] ys e h = (tt, subst (λ k. AllAt IsClean k ys) (let same : n ≡ m = omega (arith, e) in same) h)
  split n m (x ∷ xs) ys e h = let (a, b) = split (suc n) m xs ys (omega (arith, e)) h.1 in ((h.0, a), b)

  mutual
    unfolding laid_operation operation_fault

    pub operation_none : (n : ℕ) (home : Option Home) (o : Operation) → AllAt IsClean n (laid_operation n home o) → operation_fault ls n home o ≡ None
    operation_none n home (operation h rs) clean =
        or_none (head_fault (names_at ls n) h) _ clean.0.0
        (or_none (regions_fault ls n 0 (suc n) rs) (results_fault (twice_in ls home) n h) (regions_none n 0 (suc n) rs clean.0.2 clean.1) clean.0.1)

    regions_none : (d g n : ℕ) (rs : Regions) → AreRegionsClean d g (arguments_of rs) → AllAt IsClean n (laid_regions d g n rs) → regions_fault ls d g n rs ≡ None
    regions_none d g n no_regions args clean = refl
    regions_none d g n (region_then xs os rs) args clean =
        let (a, b) = split n (n + operations_count os) (laid_operations (region d g) n os) (laid_regions d (suc g) (n + operations_count os) rs) (ap (λ c. n + c) (operations_length (region d g) n os)) clean in
        or_none (arguments_fault (twice_in ls (Some (region d g))) d g 0 xs) _ args.0
        (or_none (operations_fault ls (region d g) n os) (regions_fault ls d (suc g) (n + operations_count os) rs) (operations_none (region d g) n os a) (regions_none d (suc g) (n + operations_count os) rs args.1 b))

    operations_none : (h : Home) (n : ℕ) (os : Operations) → AllAt IsClean n (laid_operations h n os) → operations_fault ls h n os ≡ None
    operations_none h n no_operations clean = refl
    operations_none h n (operation_then o os) clean =
        let (a, b) = split n (n + operation_count o) (laid_operation n (Some h) o) (laid_operations h (n + operation_count o) os) (ap (λ c. n + c) (operation_length n (Some h) o)) clean in
        or_none (operation_fault ls n (Some h) o) (operations_fault ls h (n + operation_count o) os) (operation_none n (Some h) o a) (operations_none h (n + operation_count o) os b)

  pub clean : (o : Operation) → ls ≡ laid_operation 0 None o → operation_fault ls 0 None o ≡ None
  clean o same = operation_none 0 None o (subst (AllAt IsClean 0) same (all_clean 0 rows ls pairs))
