-- What no fault of a tree says of its rows, and what its limits say of them.
use Rattle.std.proofs.Common.{◌≡◌, ◌<◌, ◌≤◌, ◌+◌, min, ℕ, suc, Bool, true, false, List, [], ◌∷◌, ◌++◌, length, drop, get_or, Option, Some, None, refl, sym, ap, subst, ◌∙◌, arith, cond}
use Rattle.std.specs.Prelude.{nat_lt, slice_get, find, flat_map}
use Rattle.std.specs.Option.{option_map_or}
use Rattle.std.specs.List.{AllByRecursion}
use Rattle.std.proofs.lemmas.Bool.Decides.{nat_tests}
use Rattle.std.proofs.lemmas.List.{length-take, length-drop}
use Rattle.mlir_tree.specs.declared.row.Home.{Home}
use Rattle.mlir_tree.specs.declared.value.Val.{Val}
use Rattle.mlir_tree.specs.declared.value.Val.TheVariants.{Res, Arg}
use Rattle.mlir_tree.specs.Tree.{Ty}
use Rattle.mlir_attributes.specs.declared.fault.ModFault.{ModFault}
use Rattle.mlir_parse.specs.declared.syn.SynArg.{SynArg}
use Rattle.mlir_parse.specs.declared.syn.SynResult.{SynResult}
use Rattle.mlir_parse.specs.SynTree.{Operation, operation, Regions, no_regions, region_then, Operations, no_operations, operation_then}
use Rattle.mlir_parse.specs.Limits.{operation_count, operations_count, region_count, syn_names, IsOperationKept, AreRegionsKept, AreOperationsKept}
use Rattle.mlir_tree.specs.Range.{AreRising}
use Rattle.mlir_resolve.specs.Laid.{Laid, arguments_of, region, laid_operation, laid_regions, laid_operations}
use Rattle.mlir_resolve.specs.Sight.{Definition, result_definitions, argument_definitions, region_definitions, row_definitions}
use Rattle.mlir_resolve.specs.Resolving.{or_then, names_at, head_fault, arguments_fault, results_fault, twice_in, operation_fault, regions_fault, operations_fault}
use Rattle.mlir_resolve.proofs.Spans.{AllAt, all_behind, operation_length, operations_length, IsNumber}
use Rattle.mlir_resolve.proofs.Nested.{blank}

pub none_of : (a b : Option ModFault) → or_then a b ≡ None → (a ≡ None) × (b ≡ None)
none_of None b h = (refl, h)
none_of (Some f) b h = absurd (cc)

-- ---- no fault at any operation

abbrev pub IsClean : List Laid → ℕ → Laid → Type 0
IsClean ls k l = head_fault (names_at ls k) l.head ≡ None

mutual
  unfolding laid_operation operation_fault

  pub operation_clean : (ls : List Laid) (n : ℕ) (home : Option Home) (o : Operation) → operation_fault ls n home o ≡ None → AllAt (IsClean ls) n (laid_operation n home o)
  operation_clean ls n home (operation h rs) none =
      let a = none_of (head_fault (names_at ls n) h) (or_then (regions_fault ls n 0 (suc n) rs) (results_fault (twice_in ls home) n h)) none in
      let b = none_of (regions_fault ls n 0 (suc n) rs) (results_fault (twice_in ls home) n h) a.1 in
      (a.0, regions_clean ls n 0 (suc n) rs b.0)

  regions_clean : (ls : List Laid) (d g n : ℕ) (rs : Regions) → regions_fault ls d g n rs ≡ None → AllAt (IsClean ls) n (laid_regions d g n rs)
  regions_clean ls d g n no_regions none = tt
  regions_clean ls d g n (region_then args os rs) none =
      let a = none_of (arguments_fault (twice_in ls (Some (region d g))) d g 0 args) (or_then (operations_fault ls (region d g) n os) (regions_fault ls d (suc g) (n + operations_count os) rs)) none in
      let b = none_of (operations_fault ls (region d g) n os) (regions_fault ls d (suc g) (n + operations_count os) rs) a.1 in
      all_behind (IsClean ls) n (operations_count os) (laid_operations (region d g) n os) (laid_regions d (suc g) (n + operations_count os) rs) (operations_length (region d g) n os)
      (operations_clean ls (region d g) n os b.0) (regions_clean ls d (suc g) (n + operations_count os) rs b.1)

  operations_clean : (ls : List Laid) (h : Home) (n : ℕ) (os : Operations) → operations_fault ls h n os ≡ None → AllAt (IsClean ls) n (laid_operations h n os)
  operations_clean ls h n no_operations none = tt
  operations_clean ls h n (operation_then o os) none =
      let a = none_of (operation_fault ls n (Some h) o) (operations_fault ls h (n + operation_count o) os) none in
      all_behind (IsClean ls) n (operation_count o) (laid_operation n (Some h) o) (laid_operations h (n + operation_count o) os) (operation_length n (Some h) o)
      (operation_clean ls n (Some h) o a.0) (operations_clean ls h (n + operation_count o) os a.1)

-- ---- limits of each row

abbrev ArgumentsKept : List (List SynArg) → Type 0
ArgumentsKept args = AllByRecursion (λ a. length a ≤ 65535) args

pub record IsRowKept (k : ℕ) (l : Laid) : Type 0 where
  pub operands : length l.head.operands ≤ 65535
  pub results : length l.head.result_types ≤ 65535
  pub regions : length l.arguments ≤ 65535
  pub arguments : ArgumentsKept l.arguments
  pub props : AreRising (syn_names l.head.props)
  pub attrs : AreRising (syn_names l.head.attrs)

regions_are : (rs : Regions) → length (arguments_of rs) ≡ region_count rs
regions_are no_regions = refl
regions_are (region_then args os rs) = ap suc (regions_are rs)

arguments_kept : (rs : Regions) → AreRegionsKept rs → ArgumentsKept (arguments_of rs)
arguments_kept no_regions kept = tt
arguments_kept (region_then args os rs) kept = (kept.0, arguments_kept rs kept.2)

mutual
  unfolding laid_operation

  pub operation_kept : (n : ℕ) (home : Option Home) (o : Operation) → IsOperationKept o → AllAt IsRowKept n (laid_operation n home o)
  operation_kept n home (operation h rs) kept = (
    record {
      operands = kept.0.operands;
      results = kept.0.results;
      regions = omega (arith, kept.0.regions, regions_are rs);
      arguments = arguments_kept rs kept.1;
      props = kept.0.props;
      attrs = kept.0.attrs;
    },
    regions_kept n 0 (suc n) rs kept.1,
  )

  regions_kept : (d g n : ℕ) (rs : Regions) → AreRegionsKept rs → AllAt IsRowKept n (laid_regions d g n rs)
  regions_kept d g n no_regions kept = tt
  regions_kept d g n (region_then args os rs) kept =
      all_behind IsRowKept n (operations_count os) (laid_operations (region d g) n os) (laid_regions d (suc g) (n + operations_count os) rs) (operations_length (region d g) n os)
      (operations_kept (region d g) n os kept.1) (regions_kept d (suc g) (n + operations_count os) rs kept.2)

  operations_kept : (h : Home) (n : ℕ) (os : Operations) → AreOperationsKept os → AllAt IsRowKept n (laid_operations h n os)
  operations_kept h n no_operations kept = tt
  operations_kept h n (operation_then o os) kept =
      all_behind IsRowKept n (operation_count o) (laid_operation n (Some h) o) (laid_operations h (n + operation_count o) os) (operation_length n (Some h) o)
      (operation_kept n (Some h) o kept.0) (operations_kept h (n + operation_count o) os kept.1)

-- ---- definitions are of values that exist

-- row k has the values of this definition
abbrev pub IsMade : ℕ → Laid → Val → ℕ → Type 0
IsMade k l (Res d o) n = (d ≡ k) × ((i : ℕ) → i < n → o + i < length l.head.result_types)
IsMade k l (Arg d g j) n = (d ≡ k) × (n ≡ 1) × (option_map_or (λ args. nat_lt j (length args)) (slice_get l.arguments g) false ≡ true)

abbrev pub IsMadeAt : ℕ → Laid → Definition → Type 0
IsMadeAt k l d = IsMade k l d.first (length d.types)

results_made : (k : ℕ) (l : Laid) (o : ℕ) (rs : List SynResult) (types : List Ty) → ((i : ℕ) → i < length types → o + i < length l.head.result_types) → AllByRecursion (IsMadeAt k l) (result_definitions k o rs types)
results_made k l o [] types fits = tt
results_made k l o (r ∷ rs) types fits = (
  (refl, λ i p. fits i (omega (arith, p, length-take r.count types, min-right r.count (length types)))),
  results_made k l (o + r.count) rs (drop r.count types) (λ i p. let q = fits (r.count + i) (omega (arith, p, length-drop r.count types)) in omega (arith, q)),
)
  where
    min-right : (a b : ℕ) → min a b ≤ b
    min-right a b = grind (arith, nat_tests)

arguments_made : (k : ℕ) (l : Laid) (g j : ℕ) (args all : List SynArg) → slice_get l.arguments g ≡ Some all → j + length args ≡ length all → AllByRecursion (IsMadeAt k l) (argument_definitions k g j args)
arguments_made k l g j [] all is long = tt
arguments_made k l g j (a ∷ args) all is long =
    ((refl, refl, ap (λ (o : Option (List SynArg)). option_map_or (λ args. nat_lt j (length args)) o false) is ∙ below), arguments_made k l g (j + 1) args all is (omega (arith, long)))
  where
    below : nat_lt j (length all) ≡ true
    below = grind (arith, nat_tests, long)

both : (P : Definition → Type 0) (xs ys : List Definition) → AllByRecursion P xs → AllByRecursion P ys → AllByRecursion P (xs ++ ys)
both P [] ys a b = b
both P (x ∷ xs) ys a b = (a.0, both P xs ys a.1 b)

each_weaker : (P Q : Definition → Type 0) (xs : List Definition) → ((d : Definition) → P d → Q d) → AllByRecursion P xs → AllByRecursion Q xs
each_weaker P Q [] f a = tt
each_weaker P Q (x ∷ xs) f a = (f x a.0, each_weaker P Q xs f a.1)

regions_made : (k : ℕ) (l : Laid) (g : ℕ) (more : List (List SynArg)) → ((i : ℕ) → slice_get more i ≡ slice_get l.arguments (g + i)) → AllByRecursion (IsMadeAt k l) (region_definitions k g more)
regions_made k l g [] are = tt
regions_made k l g (args ∷ more) are =
    let first : slice_get l.arguments g ≡ Some args = (let same : g ≡ g + 0 = omega arith in ap (slice_get l.arguments) same ∙ sym (are 0)) in
    both (IsMadeAt k l) (argument_definitions k g 0 args) (region_definitions k (g + 1) more)
    (arguments_made k l g 0 args args first (omega arith))
    (regions_made k l (g + 1) more (λ i. let same : g + suc i ≡ g + 1 + i = omega arith in are (suc i) ∙ ap (slice_get l.arguments) same))

row_made : (k : ℕ) (l : Laid) → l.id ≡ k → AllByRecursion (IsMadeAt k l) (row_definitions l)
row_made k l is =
    subst (λ (n : ℕ). AllByRecursion (IsMadeAt k l) (result_definitions n 0 l.head.results l.head.result_types ++ region_definitions n 0 l.arguments)) (sym is)
    (both (IsMadeAt k l) (result_definitions k 0 l.head.results l.head.result_types) (region_definitions k 0 l.arguments)
    (results_made k l 0 l.head.results l.head.result_types (λ i p. omega (arith, p)))
    (regions_made k l 0 l.arguments (λ i. let same : i ≡ 0 + i = omega arith in ap (slice_get l.arguments) same)))

-- some row of these, which begin at a place, has the values of the definition
abbrev pub IsMadeIn : ℕ → List Laid → Definition → Type 0
IsMadeIn n ls d = (i : ℕ) × (i < length ls) × IsMadeAt (n + i) (get_or ls i blank) d

pub all_made : (n : ℕ) (ls : List Laid) → AllAt IsNumber n ls → AllByRecursion (IsMadeIn n ls) (flat_map row_definitions ls)
all_made n [] numbers = tt
all_made n (l ∷ ls) numbers =
    both (IsMadeIn n (l ∷ ls)) (row_definitions l) (flat_map row_definitions ls)
    (each_weaker (IsMadeAt n l) (IsMadeIn n (l ∷ ls)) (row_definitions l) (λ d m. (0, omega arith, (let same : n ≡ n + 0 = omega arith in subst (λ (k : ℕ). IsMadeAt k l d) same m))) (row_made n l numbers.0))
    (each_weaker (IsMadeIn (suc n) ls) (IsMadeIn n (l ∷ ls)) (flat_map row_definitions ls)
    (λ d m. (suc m.0, omega (arith, m.1), (let same : suc n + m.0 ≡ n + suc m.0 = omega arith in subst (λ (k : ℕ). IsMadeAt k (get_or ls m.0 blank) d) same m.2)))
    (all_made (suc n) ls numbers.1))

-- what is found is in the list, and passes
pub found_is : (P : Definition → Type 0) (t : Definition → Bool) (ds : List Definition) (d : Definition) → AllByRecursion P ds → find t ds ≡ Some d → P d × (t d ≡ true)
found_is P t [] d all is = absurd (cc)
found_is P t (x ∷ ds) d all is = by_test (t x) refl is (found_is P t ds d all.1)
  where
    by_test : (b : Bool) → t x ≡ b → cond b (Some x) (find t ds) ≡ Some d → (find t ds ≡ Some d → P d × (t d ≡ true)) → P d × (t d ≡ true)
    by_test true e h rest = let same : x ≡ d = cc in (subst P same all.0, ap t (sym same) ∙ e)
    by_test false e h rest = rest h
