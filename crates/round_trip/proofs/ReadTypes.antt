-- A value that a read name means has the type that is written.
use Rattle.std.proofs.Common.{◌≡◌, ℕ, zero, suc, ◌+◌, Bool, true, false, if◌then◌else◌, List, [], ◌∷◌, ◌++◌, length, map, take, drop, refl, ap, sym, subst, ◌∙◌, arith, Option, Some, None}
use Rattle.std.specs.Prelude.{slice_get, IfSome, filter_map, find}
use Rattle.std.specs.Option.{option_map, option_and_then, option_or}
use Rattle.std.specs.Cmp.{Equal-is}
use Rattle.std.specs.List.{AllByRecursion, flat_map, cons_option}
use Rattle.std.proofs.lemmas.List.{drop-drop}
use Rattle.std.proofs.lemmas.Option.{none-some}
use Rattle.mlir_tree.specs.declared.row.Home.{Home}
use Rattle.mlir_tree.specs.declared.row.Row.{Row}
use Rattle.mlir_tree.specs.declared.value.Val.{Val}
use Rattle.mlir_tree.specs.Tree.{Ty}
use Rattle.mlir_tree.specs.Order.{ty_cmp}
use Rattle.mlir_tree.specs.Codes.{ty_same}
use Rattle.mlir_tree.specs.Module.{row_of, enclosing}
use Rattle.mlir_print.specs.ModuleText.{argument_type, value_type}
use Rattle.mlir_attributes.specs.declared.fault.ModFault.{ModFault}
use Rattle.mlir_parse.specs.declared.syn.SynArg.{SynArg}
use Rattle.mlir_parse.specs.declared.syn.SynResult.{SynResult}
use Rattle.mlir_parse.specs.declared.syn.SynUse.{SynUse}
use Rattle.mlir_resolve.specs.Laid.{Laid, row_with, bare_rows, argument_types}
use Rattle.mlir_resolve.specs.Sight.{Definition, value_at, result_definitions, argument_definitions, region_definitions, row_definitions, definitions, is_in_sight, first_in_sight, meaning_at}
use Rattle.mlir_resolve.specs.Resolving.{names_at, use_type, has_type, types_fault, used_value, or_then}
use Rattle.mlir_resolve.proofs.Clean.{found_is}
use Rattle.mlir_resolve.proofs.Spans.{AllAt}

-- ---- lists

get_take : {X : Type 0} (c : ℕ) (xs : List X) (i : ℕ) (x : X) → slice_get (take c xs) i ≡ Some x → slice_get xs i ≡ Some x
get_take zero xs i x h = absurd (none-some x h)
get_take (suc c) [] i x h = absurd (none-some x h)
get_take (suc c) (y ∷ xs) zero x h = h
get_take (suc c) (y ∷ xs) (suc i) x h = get_take c xs i x h

get_drop : {X : Type 0} (n : ℕ) (xs : List X) (i : ℕ) (x : X) → slice_get (drop n xs) i ≡ Some x → slice_get xs (n + i) ≡ Some x
get_drop zero xs i x h = subst (λ k. slice_get xs k ≡ Some x) (let e : i ≡ 0 + i = omega arith in e) h
get_drop (suc n) [] i x h = absurd (none-some x h)
get_drop (suc n) (y ∷ xs) i x h = subst (λ k. slice_get (y ∷ xs) k ≡ Some x) (let e : suc (n + i) ≡ suc n + i = omega arith in e) (get_drop n xs i x h)

join_all : (P : Definition → Type 0) (xs ys : List Definition) → AllByRecursion P xs → AllByRecursion P ys → AllByRecursion P (xs ++ ys)
join_all P [] ys x y = y
join_all P (d ∷ xs) ys x y = (x.0, join_all P xs ys x.1 y)

module _ (rows : List Row) where
  -- the values of a definition have its types
  abbrev pub HasTypes : Definition → Type 0
  HasTypes d = (i : ℕ) (t : Ty) → slice_get d.types i ≡ Some t → value_type rows (value_at d.first i) ≡ Some t

  module _ (k : ℕ) (r : Row) (here : row_of rows k ≡ Some r) where
    results_typed : (o : ℕ) (xs : List SynResult) (types : List Ty) → types ≡ drop o r.results → AllByRecursion HasTypes (result_definitions k o xs types)
    unfolding value_type
    results_typed o [] types same = tt
    results_typed o (x ∷ xs) types same = (
      (λ i t h. ap (option_and_then (λ (q : Row). slice_get q.results (o + i))) here ∙ get_drop o r.results i t (subst (λ ts. slice_get ts i ≡ Some t) same (get_take x.count types i t h))),
      results_typed (o + x.count) xs (drop x.count types) (ap (drop x.count) same ∙ drop-drop x.count o r.results),
    )

    arguments_typed : (g : ℕ) (all : List Ty) → slice_get r.regions g ≡ Some all → (j : ℕ) (xs : List SynArg) → ((i : ℕ) (t : Ty) → slice_get (argument_types xs) i ≡ Some t → slice_get all (j + i) ≡ Some t) → AllByRecursion HasTypes (argument_definitions k g j xs)
    unfolding value_type
    arguments_typed g all there j [] tail = tt
    arguments_typed g all there j (x ∷ xs) tail = (
      (λ i t h. one i t h),
      arguments_typed g all there (j + 1) xs (λ i t h. subst (λ n. slice_get all n ≡ Some t) (let e : j + suc i ≡ (j + 1) + i = omega arith in e) (tail (suc i) t h)),
    )
      where
        one : (i : ℕ) (t : Ty) → slice_get (x.ty ∷ []) i ≡ Some t → option_and_then (argument_type g (j + i)) (row_of rows k) ≡ Some t
        one zero t h = ap (option_and_then (argument_type g (j + 0))) here ∙ ap (option_and_then (λ (ts : List Ty). slice_get ts (j + 0))) there ∙ tail 0 t h
        one (suc i) t h = absurd (none-some t h)

    regions_typed : (g : ℕ) (xs : List (List SynArg)) → ((i : ℕ) (ts : List Ty) → slice_get (map argument_types xs) i ≡ Some ts → slice_get r.regions (g + i) ≡ Some ts) → AllByRecursion HasTypes (region_definitions k g xs)
    regions_typed g [] tail = tt
    regions_typed g (x ∷ xs) tail =
        let here_g : slice_get r.regions g ≡ Some (argument_types x) = subst (λ n. slice_get r.regions n ≡ Some (argument_types x)) (let e : g + 0 ≡ g = omega arith in e) (tail 0 (argument_types x) refl) in
        join_all HasTypes (argument_definitions k g 0 x) (region_definitions k (g + 1) xs)
        (arguments_typed g (argument_types x) here_g 0 x (λ i t h. subst (λ n. slice_get (argument_types x) n ≡ Some t) (let e : i ≡ 0 + i = omega arith in e) h))
        (regions_typed (g + 1) xs (λ i ts h. subst (λ n. slice_get r.regions n ≡ Some ts) (let e : g + suc i ≡ (g + 1) + i = omega arith in e) (tail (suc i) ts h)))

  -- the operation's row is there
  pub record IsThere (f : Laid → List Val) (k : ℕ) (l : Laid) : Type 0 where
    pub id : l.id ≡ k
    pub row : row_of rows k ≡ Some (row_with (f l) l)

  row_typed : (f : Laid → List Val) (k : ℕ) (l : Laid) → IsThere f k l → AllByRecursion HasTypes (row_definitions l)
  row_typed f k l h =
      subst (λ n. AllByRecursion HasTypes (result_definitions n 0 l.head.results l.head.result_types ++ region_definitions n 0 l.arguments)) (sym h.id)
      (join_all HasTypes (result_definitions k 0 l.head.results l.head.result_types) (region_definitions k 0 l.arguments)
      (results_typed k (row_with (f l) l) h.row 0 l.head.results l.head.result_types refl)
      (regions_typed k (row_with (f l) l) h.row 0 l.arguments (λ i ts at. subst (λ n. slice_get (map argument_types l.arguments) n ≡ Some ts) (let e : i ≡ 0 + i = omega arith in e) at)))

  all_typed : (f : Laid → List Val) (k : ℕ) (ms : List Laid) → AllAt (IsThere f) k ms → AllByRecursion HasTypes (flat_map row_definitions ms)
  all_typed f k [] h = tt
  all_typed f k (l ∷ ms) h = join_all HasTypes (row_definitions l) (flat_map row_definitions ms) (row_typed f k l h.0) (all_typed f (suc k) ms h.1)

  -- ---- what is in sight

  sight_by : (bare : List Row) (ds : List Definition) (h : Home) (name : List ℕ) (u : ℕ) (d : Definition) (x : Option Definition) (more : Option Definition) → AllByRecursion HasTypes ds → find (is_in_sight bare h name u) ds ≡ x → (more ≡ Some d → HasTypes d) → option_or x more ≡ Some d → HasTypes d
  sight_by bare ds h name u d None more all is go same = go same
  sight_by bare ds h name u d (Some x) more all is go same = (found_is HasTypes (is_in_sight bare h name u) ds d all (is ∙ same)).0

  sight_typed : (bare : List Row) (ds : List Definition) (name : List ℕ) (u : ℕ) (d : Definition) → AllByRecursion HasTypes ds → (hs : List Home) → first_in_sight bare ds hs name u ≡ Some d → HasTypes d
  sight_typed bare ds name u d all [] h = absurd (none-some d h)
  sight_typed bare ds name u d all (x ∷ hs) h = sight_by bare ds x name u d (find (is_in_sight bare x name u) ds) (first_in_sight bare ds hs name u) all refl (λ e. sight_typed bare ds name u d all hs e) h

  meaning_typed : (f : Laid → List Val) (ls : List Laid) → AllAt (IsThere f) 0 ls → (u : ℕ) (name : List ℕ) (d : Definition) → meaning_at ls u name ≡ Some d → HasTypes d
  unfolding meaning_at definitions
  meaning_typed f ls all u name d h = sight_typed (bare_rows ls) (definitions ls) name u d (all_typed f 0 ls all) (enclosing (bare_rows ls) u) h

  -- ---- operands

  some_of : (P : Ty → Type 0) (o : Option Ty) (t : Ty) → o ≡ Some t → P t → IfSome o P
  some_of P o t same h = subst (λ x. IfSome x P) (sym same) h

  type_is : (o : Option Ty) (t : Ty) → has_type o t ≡ true → o ≡ Some t
  type_is None t h = absurd (cc)
  type_is (Some u) t h = ap Some (ty_same u t ((Equal-is (ty_cmp u t)).0 h))

  operand_by : (P : Ty → Type 0) (m : Option Definition) (index : ℕ) (t : Ty) (w : Option Val) → ((d : Definition) → m ≡ Some d → HasTypes d) → option_and_then (λ (d : Definition). slice_get d.types index) m ≡ Some t → option_map (λ (d : Definition). value_at d.first index) m ≡ w → P t
      → (rest : List Val) → AllByRecursion (λ v. IfSome (value_type rows v) P) rest → AllByRecursion (λ v. IfSome (value_type rows v) P) (cons_option w rest)
  operand_by P None index t w typed is value h rest all = absurd (none-some t is)
  operand_by P (Some d) index t w typed is value h rest all =
      subst (λ x. AllByRecursion (λ v. IfSome (value_type rows v) P) (cons_option x rest)) value
      (some_of P (value_type rows (value_at d.first index)) t (typed d refl index t is) h, all)

  test_of : (b : Bool) (f : ModFault) (rest : Option ModFault) → or_then (if b then None else Some f) rest ≡ None → (b ≡ true) × (rest ≡ None)
  test_of true f rest h = (refl, h)
  test_of false f rest h = absurd (cc)

  pub operands_typed : (f : Laid → List Val) (ls : List Laid) → AllAt (IsThere f) 0 ls → (P : Ty → Type 0) (u : ℕ) (xs : List SynUse) (ts : List Ty) → length xs ≡ length ts → types_fault (names_at ls u) xs ts ≡ None → AllByRecursion P ts
      → AllByRecursion (λ v. IfSome (value_type rows v) P) (filter_map (used_value (names_at ls u)) xs)
  unfolding use_type
  operands_typed f ls all P u [] ts same none h = tt
  operands_typed f ls all P u (x ∷ xs) [] same none h = absurd (omega (arith, same))
  operands_typed f ls all P u (x ∷ xs) (t ∷ ts) same none h =
      let parts = test_of (has_type (use_type (names_at ls u) x) t) _ (types_fault (names_at ls u) xs ts) none in
      operand_by P (meaning_at ls u x.name) x.index t (used_value (names_at ls u) x) (λ d e. meaning_typed f ls all u x.name d e) (type_is (use_type (names_at ls u) x) t parts.0) refl h.0
      (filter_map (used_value (names_at ls u)) xs) (operands_typed f ls all P u xs ts (omega (arith, same)) parts.1 h.1)
