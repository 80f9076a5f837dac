-- The rows of a tree without a fault are well-formed.
use Rattle.std.proofs.Common.{◌≡◌, ◌<◌, ◌≤◌, ◌+◌, ◌^◌, ℕ, zero, suc, Bool, true, false, ◌&&◌, ◌||◌, List, [], ◌∷◌, length, map, get_or, codes, Option, Some, None, Result, Ok, Err, refl, sym, ap, subst, ◌∙◌, arith, cond}
use Rattle.std.specs.Prelude.{IfOk, IfSome, ◌==◌, nat_lt, slice_get, IsSome, All, Contains, find, flat_map, filter_map}
use Rattle.std.specs.Option.{option_or, option_map, option_map_or}
use Rattle.std.specs.List.{AllByRecursion, cons_option}
use Rattle.std.specs.Str.{bytes_eq}
use Rattle.std.proofs.lemmas.Bool.Decides.{nat_tests}
use Rattle.std.proofs.lemmas.Slice.Eq.{bytes_eq-Decides}
use Rattle.std.proofs.lemmas.List.{length-map}
use Rattle.std.proofs.lemmas.List.Elements.{All-from_recursion}
use Rattle.std.proofs.lemmas.Option.{slice_get-map, slice_get-get_or, get_or_from_slice_get}
use Rattle.mlir_tree.specs.declared.row.Home.{Home}
use Rattle.mlir_tree.specs.declared.row.Row.{Row}
use Rattle.mlir_tree.specs.declared.rows.Rows.{Rows}
use Rattle.mlir_tree.specs.declared.value.Val.{Val}
use Rattle.mlir_tree.specs.declared.value.Val.TheVariants.{Res, Arg}
use Rattle.mlir_tree.specs.Tree.{Ty}
use Rattle.mlir_tree.specs.Range.{AreRising}
use Rattle.mlir_tree.specs.Module.{row_of, has_argument, is_value, is_in_scope, is_visible, IsVisible, enclosing}
use Rattle.mlir_tree.specs.WellFormed.{BeginsWithModule, HomesAreLower, HasVisibleOperands, names, HasDictionaries, HasSizes, IsWellFormed}
use Rattle.mlir_tree.specs.declared.refusal.Refusal.{Refusal}
use Rattle.mlir_tree.specs.declared.refusal.Refusal.TheVariants as refusal
use Rattle.mlir_attributes.specs.Input.{Gives}
use Rattle.mlir_attributes.specs.declared.fault.ModFault.{ModFault}
use Rattle.mlir_attributes.specs.declared.fault.ModKind.TheVariants as faults
use Rattle.mlir_parse.specs.declared.syn.Syn.{Syn}
use Rattle.mlir_parse.specs.declared.syn.SynArg.{SynArg}
use Rattle.mlir_parse.specs.declared.syn.SynEntry.{SynEntry}
use Rattle.mlir_parse.specs.declared.syn.SynUse.{SynUse}
use Rattle.mlir_parse.specs.SynTree.{Head, Operation, operation, Regions, no_regions, region_then, operations}
use Rattle.mlir_parse.specs.Limits.{syn_names, IsOperationKept, AreOperationsKept, KeepsLimits}
use Rattle.mlir_resolve.specs.Laid.{Laid, arguments_of, has_no_values, row_with, bare_rows, entry_pair, argument_types, laid_operation, laid_regions, module_of, is_module, is_module_shape, implied_module}
use Rattle.mlir_resolve.specs.Sight.{Definition, value_at, definitions, is_of_region, is_defined, is_in_sight, first_in_sight, meaning_at, row_definitions}
use Rattle.mlir_resolve.specs.Resolving.{Names, or_then, known_use_fault, use_fault, uses_fault, count_fault, types_fault, has_entry, lesser, least_shared, entries_fault, head_fault, names_at, operation_fault, used_value, resolved_rows, rows_or, resolved}
use Rattle.mlir_resolve.proofs.Spans.{AllAt, IsBetween, IsBefore, operation_numbers, inner_homes}
use Rattle.mlir_resolve.proofs.RowFacts.{fact_of, homes_before}
use Rattle.mlir_resolve.proofs.Nested as nested
use Rattle.mlir_resolve.proofs.Nested.{rows_by, blank}
use Rattle.mlir_resolve.proofs.SameScopes.{same_scope}
use Rattle.mlir_resolve.proofs.Clean.{IsMade, none_of, IsClean, operation_clean, IsRowKept, operation_kept, IsMadeAt, IsMadeIn, all_made, found_is}

-- ---- operands

abbrev bare : Laid → List Val
bare l = []

-- the row of a value has it
value_there : (f : Laid → List Val) (o : Operation) (k : ℕ) (v : Val) (n i : ℕ) → k < length (laid_operation 0 None o) → IsMade k (get_or (laid_operation 0 None o) k blank) v n → i < n
    → is_value (rows_by f (laid_operation 0 None o)) (value_at v i) ≡ true
value_there f o k (Res d j) n i there made l =
    let row = nested.row f o k in
    subst (λ (x : ℕ). option_map_or (λ (r : Row). nat_lt (j + i) (length r.results)) (row_of (nested.rows f o) x) false ≡ true) (sym made.0)
    (ap (λ (x : Option Row). option_map_or (λ (r : Row). nat_lt (j + i) (length r.results)) x false) (nested.row_of_is f o k there) ∙ grind (arith, nat_tests, made.1 i l))
value_there f o k (Arg d g j) n i there made l =
    let row = nested.row f o k in
    let first : j + i ≡ j = omega (arith, made.1, l) in
    subst (λ (x : ℕ). option_map_or (has_argument g (j + i)) (row_of (nested.rows f o) x) false ≡ true) (sym made.0)
    (ap (λ (x : Option Row). option_map_or (has_argument g (j + i)) x false) (nested.row_of_is f o k there)
    ∙ (ap (λ (x : ℕ). has_argument g x row) first
    ∙ (ap (λ (x : Option (List Ty)). option_map_or (λ args. nat_lt j (length args)) x false) (slice_get-map argument_types (get_or (laid_operation 0 None o) k blank).arguments g)
    ∙ (by_region (slice_get (get_or (laid_operation 0 None o) k blank).arguments g) ∙ made.2))))
  where
    by_region : (x : Option (List SynArg)) → option_map_or (λ (args : List Ty). nat_lt j (length args)) (option_map argument_types x) false ≡ option_map_or (λ (args : List SynArg). nat_lt j (length args)) x false
    by_region None = refl
    by_region (Some args) = ap (nat_lt j) (length-map args (λ (a : SynArg). a.ty))

-- a definition that is found in sight is one of the file, and in scope
sight_is : (rows : List Row) (P : Definition → Type 0) (ds : List Definition) (hs : List Home) (name : List ℕ) (u : ℕ) (d : Definition) → AllByRecursion P ds → first_in_sight rows ds hs name u ≡ Some d
    → P d × (is_in_scope rows d.first u ≡ true)
sight_is rows P ds [] name u d all is = absurd (cc)
sight_is rows P ds (h ∷ hs) name u d all is = by_find (find (is_in_sight rows h name u) ds) refl is (sight_is rows P ds hs name u d all)
  where
    last : (a b c : Bool) → (a && (b && c)) ≡ true → c ≡ true
    last true true c e = e
    last true false c e = absurd (cc)
    last false b c e = absurd (cc)

    by_find : (x : Option Definition) → find (is_in_sight rows h name u) ds ≡ x → option_or x (first_in_sight rows ds hs name u) ≡ Some d → (first_in_sight rows ds hs name u ≡ Some d → P d × (is_in_scope rows d.first u ≡ true))
        → P d × (is_in_scope rows d.first u ≡ true)
    by_find None e h' rest = rest h'
    by_find (Some x) e h' rest =
        let same : x ≡ d = cc in
        let found = found_is P (is_in_sight rows h name u) ds d all (e ∙ ap Some same) in
        (found.0, last (bytes_eq d.name name) (is_of_region rows h d.first) (is_in_scope rows d.first u) found.1)

module _ (f : Laid → List Val) (o : Operation) where
  ls : List Laid
  ls = laid_operation 0 None o

  used_visible : (u : ℕ) (x : SynUse) (v : Val) → u < length (laid_operation 0 None o) → use_fault (names_at (laid_operation 0 None o) u) x ≡ None → used_value (names_at (laid_operation 0 None o) u) x ≡ Some v
      → IsVisible (rows_by f (laid_operation 0 None o)) v u
  unfolding use_fault meaning_at is_visible definitions
  used_visible u x v fits none is = by_meaning (meaning_at (laid_operation 0 None o) u x.name) refl none is
    where
      all : AllByRecursion (IsMadeIn 0 (laid_operation 0 None o)) (flat_map row_definitions (laid_operation 0 None o))
      all = all_made 0 (laid_operation 0 None o) (operation_numbers 0 None o)

      index_fits : (d : Definition) → known_use_fault x (Some d) (is_defined (laid_operation 0 None o) x.name) ≡ None → x.index < length d.types
      index_fits d e = by_test (nat_lt x.index (length d.types)) refl e
        where
          by_test : (b : Bool) → nat_lt x.index (length d.types) ≡ b → cond {A = Option ModFault} b None (Some (record { kind = faults.ResultIndex; at = x.at })) ≡ None → x.index < length d.types
          by_test true e h = grind (arith, nat_tests, e)
          by_test false e h = absurd (cc)

      never : (b : Bool) → known_use_fault x None b ≡ None → ⊥
      never true e = cc
      never false e = cc

      by_meaning : (m : Option Definition) → meaning_at (laid_operation 0 None o) u x.name ≡ m → known_use_fault x m (is_defined (laid_operation 0 None o) x.name) ≡ None → option_map (λ (d : Definition). value_at d.first x.index) m ≡ Some v
          → IsVisible (rows_by f (laid_operation 0 None o)) v u
      by_meaning None e h w = absurd (never (is_defined (laid_operation 0 None o) x.name) h)
      by_meaning (Some d) e h w =
          let value : value_at d.first x.index ≡ v = cc in
          let found = sight_is (bare_rows (laid_operation 0 None o)) (IsMadeIn 0 (laid_operation 0 None o)) (flat_map row_definitions (laid_operation 0 None o)) (enclosing (bare_rows (laid_operation 0 None o)) u) x.name u d all e in
          let made = found.0 in
          let there : made.0 < length (laid_operation 0 None o) = made.1 in
          let same : 0 + made.0 ≡ made.0 = omega arith in
          let exists = value_there f o made.0 d.first (length d.types) x.index there (subst (λ (k : ℕ). IsMadeAt k (get_or (laid_operation 0 None o) made.0 blank) d) same made.2) (index_fits d h) in
          let scope = same_scope f bare (laid_operation 0 None o) d.first x.index u ∙ found.1 in
          subst (λ (w : Val). is_visible (rows_by f (laid_operation 0 None o)) w u ≡ true) value (λ i. exists i && scope i)

  pub all_visible : (u : ℕ) (xs : List SynUse) → u < length (laid_operation 0 None o) → uses_fault (names_at (laid_operation 0 None o) u) xs ≡ None
      → AllByRecursion (λ v. IsVisible (rows_by f (laid_operation 0 None o)) v u) (filter_map (used_value (names_at (laid_operation 0 None o) u)) xs)
  all_visible u [] fits none = tt
  all_visible u (x ∷ xs) fits none =
      let q = none_of (use_fault (names_at (laid_operation 0 None o) u) x) (uses_fault (names_at (laid_operation 0 None o) u) xs) none in
      by_value (used_value (names_at (laid_operation 0 None o) u) x) refl (λ v is. used_visible u x v fits q.0 is) (all_visible u xs fits q.1)
    where
      by_value : (w : Option Val) → used_value (names_at (laid_operation 0 None o) u) x ≡ w → ((v : Val) → used_value (names_at (laid_operation 0 None o) u) x ≡ Some v → IsVisible (rows_by f (laid_operation 0 None o)) v u)
          → AllByRecursion (λ v. IsVisible (rows_by f (laid_operation 0 None o)) v u) (filter_map (used_value (names_at (laid_operation 0 None o) u)) xs)
          → AllByRecursion (λ v. IsVisible (rows_by f (laid_operation 0 None o)) v u) (cons_option w (filter_map (used_value (names_at (laid_operation 0 None o) u)) xs))
      by_value None is seen rest = rest
      by_value (Some v) is seen rest = (seen v is, rest)

-- there are no more operands than uses
fewer : (h : SynUse → Option Val) (xs : List SynUse) → length (filter_map h xs) ≤ length xs
fewer h [] = omega arith
fewer h (x ∷ xs) = by_value (h x) (fewer h xs)
  where
    by_value : (w : Option Val) → length (filter_map h xs) ≤ length xs → length (cons_option w (filter_map h xs)) ≤ suc (length xs)
    by_value None le = omega (arith, le)
    by_value (Some v) le = omega (arith, le)

-- ---- dictionaries

names_are : (es : List SynEntry) → names (map entry_pair es) ≡ syn_names es
names_are [] = refl
names_are (e ∷ es) = ap (λ l. e.name ∷ l) (names_are es)

some_lesser : (at : ℕ) (o : Option ℕ) → lesser at o ≡ None → ⊥
some_lesser at None h = cc
some_lesser at (Some b) h = cc

no_shared : (h : Head) → entries_fault h ≡ None → least_shared h.props h.attrs ≡ None
no_shared h none = by_place (least_shared h.props h.attrs) none
  where
    by_place : (o : Option ℕ) → option_map {T = ℕ} {U = ModFault} (λ at. record { kind = faults.PropAndAttr; at = at }) o ≡ None → o ≡ None
    by_place None h = refl
    by_place (Some at) h = absurd (cc)

-- no attribute has the name of a property
apart_at : (props attrs : List SynEntry) → least_shared props attrs ≡ None → (k : ℕ) (name : List ℕ) → slice_get (syn_names attrs) k ≡ Some name → has_entry props name ≡ false
apart_at props [] none k name is = absurd (cc)
apart_at props (e ∷ attrs) none k name is = by_test (has_entry props e.name) refl none k is (λ j h at. apart_at props attrs h j name at)
  where
    by_test : (b : Bool) → has_entry props e.name ≡ b → cond b (lesser e.at (least_shared props attrs)) (least_shared props attrs) ≡ None → (k : ℕ) → slice_get (syn_names (e ∷ attrs)) k ≡ Some name
        → ((j : ℕ) → least_shared props attrs ≡ None → slice_get (syn_names attrs) j ≡ Some name → has_entry props name ≡ false) → has_entry props name ≡ false
    by_test true t h k at rest = absurd (some_lesser e.at (least_shared props attrs) h)
    by_test false t h zero at rest = let same : e.name ≡ name = cc in ap (has_entry props) (sym same) ∙ t
    by_test false t h (suc j) at rest = rest j h at

has_at : (props : List SynEntry) (k : ℕ) (name : List ℕ) → slice_get (syn_names props) k ≡ Some name → has_entry props name ≡ true
has_at [] k name is = absurd (cc)
has_at (e ∷ props) zero name is =
    let same : e.name ≡ name = cc in
    let yes : bytes_eq e.name name ≡ true = (bytes_eq-Decides e.name name).1 same in
    λ i. yes i || has_entry props name
has_at (e ∷ props) (suc k) name is = (λ i. bytes_eq e.name name || has_at props k name is i) ∙ always (bytes_eq e.name name)
  where
    always : (b : Bool) → (b || true) ≡ true
    always true = refl
    always false = refl

contained_at : (ns : List (List ℕ)) (name : List ℕ) → Contains ns name → (k : ℕ) × (slice_get ns k ≡ Some name)
contained_at ns name (k, l, is) = (k, slice_get-get_or ns k name l ∙ ap Some is)

pub dictionaries : (f : Laid → List Val) (k : ℕ) (l : Laid) → IsRowKept k l → entries_fault l.head ≡ None → HasDictionaries (row_with (f l) l)
dictionaries f k l kept none = record {
  properties = subst AreRising (sym (names_are l.head.props)) kept.props;
  attributes = subst AreRising (sym (names_are l.head.attrs)) kept.attrs;
  apart = λ name p a.
      let in_props = contained_at (syn_names l.head.props) name (subst (λ (ns : List (List ℕ)). Contains ns name) (names_are l.head.props) p) in
      let in_attrs = contained_at (syn_names l.head.attrs) name (subst (λ (ns : List (List ℕ)). Contains ns name) (names_are l.head.attrs) a) in
      let yes = has_at l.head.props in_props.0 name in_props.1 in
      let not_there = apart_at l.head.props l.head.attrs (no_shared l.head none) in_attrs.0 name in_attrs.1 in
      cc (sym yes ∙ not_there);
}

-- ---- sizes

arguments_fit : (args : List (List SynArg)) → AllByRecursion (λ a. length a ≤ 65535) args → AllByRecursion (λ types. length types < 2 ^ 16) (map argument_types args)
arguments_fit [] all = tt
arguments_fit (a ∷ args) all = (omega (arith, all.0, length-map a (λ (x : SynArg). x.ty)), arguments_fit args all.1)

pub sizes : (f : Laid → List Val) (k : ℕ) (l : Laid) → length (f l) ≤ length l.head.operands → IsRowKept k l → HasSizes (row_with (f l) l)
sizes f k l le kept = record {
  operands = omega (arith, le, kept.operands);
  results = omega (arith, kept.results);
  regions = omega (arith, length-map l.arguments argument_types, kept.regions);
  arguments = All-from_recursion (λ types. length types < 2 ^ 16) (map argument_types l.arguments) (arguments_fit l.arguments kept.arguments);
}

-- ---- the module's own row

pub record IsModuleHead (h : Head) (rs : Regions) : Type 0 where
  pub name : h.name ≡ codes "builtin.module"
  pub one_region : length (arguments_of rs) ≡ 1
  pub operands : h.operands ≡ []
  pub results : h.result_types ≡ []

abbrev IsModuleTree : Operation → Type 0
IsModuleTree (operation h rs) = IsModuleHead h rs

no_items : {A : Type 0} (xs : List A) → (length xs == 0) ≡ true → xs ≡ []
no_items [] h = refl
no_items (x ∷ xs) h = absurd (let no_zero : (suc (length xs) == 0) ≡ false = grind (arith, nat_tests) in cc (no_zero, h))

both_true : (a b : Bool) → (a && b) ≡ true → (a ≡ true) × (b ≡ true)
both_true true b h = (refl, h)
both_true false b h = absurd (cc)

shape_is : (h : Head) (rs : Regions) → is_module_shape h rs ≡ true → IsModuleHead h rs
shape_is h no_regions is = absurd (cc)
shape_is h (region_then args os (region_then a o rs)) is = absurd (cc)
shape_is h (region_then args os no_regions) is =
    let p = both_true (bytes_eq h.name (codes "builtin.module")) (has_no_values h) is in
    let q = both_true (length h.operands == 0) (length h.result_types == 0) p.1 in
    record { name = (bytes_eq-Decides h.name (codes "builtin.module")).0 p.0; one_region = refl; operands = no_items h.operands q.0; results = no_items h.result_types q.1 }

implied_is : (os : List Operation) → IsModuleTree (implied_module os)
implied_is os = record { name = refl; one_region = refl; operands = refl; results = refl }

module_is : (os : List Operation) → IsModuleTree (module_of os)
module_is [] = implied_is []
module_is (a ∷ b ∷ os) = implied_is (a ∷ b ∷ os)
module_is (operation h rs ∷ []) = by_test (is_module_shape h rs) refl
  where
    by_test : (b : Bool) → is_module_shape h rs ≡ b → IsModuleTree (cond b (operation h rs) (implied_module (operation h rs ∷ [])))
    by_test true e = shape_is h rs e
    by_test false e = implied_is (operation h rs ∷ [])

implied_kept : (os : List Operation) → AreOperationsKept (operations os) → IsOperationKept (implied_module os)
implied_kept os kept = (record { operands = omega arith; results = omega arith; regions = omega arith; props = tt; attrs = tt }, (omega arith, kept, tt))

module_kept : (os : List Operation) → AreOperationsKept (operations os) → IsOperationKept (module_of os)
module_kept [] kept = implied_kept [] kept
module_kept (a ∷ b ∷ os) kept = implied_kept (a ∷ b ∷ os) kept
module_kept (o ∷ []) kept = by_test (is_module o)
  where
    by_test : (b : Bool) → IsOperationKept (cond b o (implied_module (o ∷ [])))
    by_test true = kept.0
    by_test false = implied_kept (o ∷ []) kept

-- ---- all together

have_homes : (f : Laid → List Val) (n : ℕ) (xs : List Laid) → AllAt (IsBetween 0) n xs → AllByRecursion (λ (r : Row). IsSome r.home) (rows_by f xs)
have_homes f n [] all = tt
have_homes f n (l ∷ xs) all = (subst (λ (o : Option Home). IsSome o) (sym all.0.is) refl, have_homes f (suc n) xs all.1)

begins : (f : Laid → List Val) (o : Operation) → IsModuleTree o → ((l : Laid) → l.head.operands ≡ [] → f l ≡ []) → BeginsWithModule (rows_by f (laid_operation 0 None o))
unfolding laid_operation
begins f (operation h rs) is none =
    let l : Laid = record { id = 0; home = None; head = h; arguments = arguments_of rs } in (
      record {
        number = refl;
        no_home = refl;
        name = is.name;
        one_region = length-map (arguments_of rs) argument_types ∙ is.one_region;
        no_operands = none l is.operands;
        no_results = is.results;
      },
      All-from_recursion (λ (r : Row). IsSome r.home) (rows_by f (laid_regions 0 0 1 rs)) (have_homes f 1 (laid_regions 0 0 1 rs) (inner_homes 0 rs)),
    )

-- a fact of each row, from one of each operation at its place
each_row : (f : Laid → List Val) (P : Row → Type 0) (ls : List Laid) → ((k : ℕ) → k < length ls → P (row_with (f (get_or ls k blank)) (get_or ls k blank))) → All P (rows_by f ls)
each_row f P ls all k d l =
    let fits : k < length ls = omega (arith, l, length-map ls (λ x. row_with (f x) x)) in
    subst P (sym (get_or_from_slice_get (rows_by f ls) k (row_with (f (get_or ls k blank)) (get_or ls k blank)) d
    (slice_get-map (λ x. row_with (f x) x) ls k ∙ ap (option_map (λ x. row_with (f x) x)) (slice_get-get_or ls k blank fits))))
    (all k fits)

module _ (o : Operation) where
  abbrev tree : List Laid
  tree = laid_operation 0 None o

  abbrev operands_of : Laid → List Val
  operands_of l = filter_map (used_value (names_at (laid_operation 0 None o) l.id)) l.head.operands

  pub whole : IsModuleTree o → IsOperationKept o → operation_fault (laid_operation 0 None o) 0 None o ≡ None → IsWellFormed (resolved_rows (laid_operation 0 None o))
  unfolding head_fault
  whole is kept none =
      let clean = operation_clean (laid_operation 0 None o) 0 None o none in
      let limits = operation_kept 0 None o kept in
      record {
        numbers = record {
          differ = nested.distinct operands_of o;
          below_next = each_row operands_of (λ r. r.id < length (laid_operation 0 None o)) tree (λ k l. omega (arith, nested.id_is operands_of o k l, l));
          begins = begins operands_of o is (λ l e. ap (filter_map (used_value (names_at (laid_operation 0 None o) l.id))) e);
        };
        nesting = nested.nested operands_of o;
        operands = each_row operands_of (HasVisibleOperands (rows_by operands_of tree)) tree (λ k l. visible k l (fact_of (IsClean tree) tree k blank clean l));
        dictionaries = each_row operands_of HasDictionaries tree (λ k l. dictionaries operands_of k (get_or tree k blank) (fact_of IsRowKept tree k blank limits l) (entries_clean (names_at tree k) (get_or tree k blank).head (fact_of (IsClean tree) tree k blank clean l)));
        sizes = each_row operands_of HasSizes tree (λ k l. sizes operands_of k (get_or tree k blank) (fewer (used_value (names_at tree (get_or tree k blank).id)) (get_or tree k blank).head.operands) (fact_of IsRowKept tree k blank limits l));
      }
    where
      entries_clean : (at : Names) (h : Head) → head_fault at h ≡ None → entries_fault h ≡ None
      entries_clean at h none =
          let a = none_of (uses_fault at h.operands) (or_then (count_fault h) (or_then (types_fault at h.operands h.operand_types) (entries_fault h))) none in
          let b = none_of (count_fault h) (or_then (types_fault at h.operands h.operand_types) (entries_fault h)) a.1 in
          (none_of (types_fault at h.operands h.operand_types) (entries_fault h) b.1).1

      visible : (k : ℕ) → k < length (laid_operation 0 None o) → IsClean (laid_operation 0 None o) k (get_or (laid_operation 0 None o) k blank)
          → HasVisibleOperands (rows_by operands_of (laid_operation 0 None o)) (row_with (operands_of (get_or (laid_operation 0 None o) k blank)) (get_or (laid_operation 0 None o) k blank))
      visible k l clean =
          let ls = laid_operation 0 None o in
          let row = get_or ls k blank in
          let a = none_of (uses_fault (names_at ls k) row.head.operands) (or_then (count_fault row.head) (or_then (types_fault (names_at ls k) row.head.operands row.head.operand_types) (entries_fault row.head))) clean in
          let number : k ≡ row.id = sym (nested.id_is operands_of o k l) in
          All-from_recursion (λ v. IsVisible (rows_by operands_of ls) v row.id) (operands_of row)
          (subst (λ (n : ℕ). AllByRecursion (λ v. IsVisible (rows_by operands_of ls) v n) (filter_map (used_value (names_at ls n)) row.head.operands)) number (all_visible operands_of o k row.head.operands l a.0))

  -- numbers are above those of homes
  pub lower : HomesAreLower (resolved_rows (laid_operation 0 None o)).rows
  lower = each_row operands_of (λ r. IfSome r.home (λ h. h.row < r.id)) tree (λ k l. by_home k l (get_or tree k blank).home refl)
    where
      by_home : (k : ℕ) → k < length (laid_operation 0 None o) → (x : Option Home) → (get_or (laid_operation 0 None o) k blank).home ≡ x → IfSome x (λ h. h.row < (get_or (laid_operation 0 None o) k blank).id)
      by_home k l None is = tt
      by_home k l (Some h) is = omega (arith, nested.id_is operands_of o k l, (fact_of IsBefore (laid_operation 0 None o) k blank (homes_before o) l).before h is)

pub well_formed_rows : (file : Syn) (m : Rows) → KeepsLimits file → resolved file ≡ Ok m → IsWellFormed m
unfolding resolved
well_formed_rows file m kept is = by_fault (operation_fault (laid_operation 0 None (module_of file.ops)) 0 None (module_of file.ops)) refl is
  where
    by_fault : (x : Option ModFault) → operation_fault (laid_operation 0 None (module_of file.ops)) 0 None (module_of file.ops) ≡ x → rows_or (laid_operation 0 None (module_of file.ops)) x ≡ Ok m → IsWellFormed m
    by_fault (Some e) none h = absurd (cc)
    by_fault None none h =
        let same : resolved_rows (laid_operation 0 None (module_of file.ops)) ≡ m = cc in
        subst IsWellFormed same (whole (module_of file.ops) (module_is file.ops) (module_kept file.ops kept.each) none)

-- what a call gives that resolves
pub given_well_formed : (file : Syn) (r : Result Rows (Refusal ModFault)) → KeepsLimits file → Gives r (resolved file) → IfOk r (λ m. IsWellFormed m)
given_well_formed file (Ok m) kept gives = well_formed_rows file m kept gives
given_well_formed file (Err refusal.NoMemory) kept gives = tt
given_well_formed file (Err (refusal.Fault f)) kept gives = tt

-- the same of the numbers of homes
pub lower_homes : (file : Syn) (r : Result Rows (Refusal ModFault)) → Gives r (resolved file) → IfOk r (λ m. HomesAreLower m.rows)
unfolding resolved
lower_homes file (Ok m) gives = by_fault (operation_fault (laid_operation 0 None (module_of file.ops)) 0 None (module_of file.ops)) gives
  where
    by_fault : (x : Option ModFault) → rows_or (laid_operation 0 None (module_of file.ops)) x ≡ Ok m → HomesAreLower m.rows
    by_fault (Some e) h = absurd (cc)
    by_fault None h =
        let same : resolved_rows (laid_operation 0 None (module_of file.ops)) ≡ m = cc in
        subst (λ (n : Rows). HomesAreLower n.rows) same (lower (module_of file.ops))
lower_homes file (Err refusal.NoMemory) gives = tt
lower_homes file (Err (refusal.Fault f)) gives = tt
