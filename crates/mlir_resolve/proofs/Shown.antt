-- Which names of each row stand in sight at another row.
use Rattle.std.proofs.Common.{◌≡◌, ◌<◌, ◌+◌, ℕ, suc, Bool, true, false, not, ◌&&◌, cond, List, [], ◌∷◌, ◌++◌, length, get_or, Option, Some, None, refl, sym, ap, subst, ◌∙◌, arith}
use Rattle.std.specs.Prelude.{◌==◌, nat_lt, if◌then◌else◌, find, filter, flat_map}
use Rattle.std.specs.Option.{option_or, option_map_or, option_and_then}
use Rattle.std.specs.List.{list_any}
use Rattle.std.specs.Bool.{one_answer}
use Rattle.std.specs.Str.{bytes_eq}
use Rattle.std.proofs.lemmas.Slice.Eq.{bytes_eq-Decides}
use Rattle.std.proofs.lemmas.List.Elements.{filter-append}
use Rattle.mlir_tree.specs.declared.row.Home.{Home}
use Rattle.mlir_tree.specs.declared.row.Row.{Row}
use Rattle.mlir_tree.specs.declared.value.Val.{Val}
use Rattle.mlir_tree.specs.declared.value.Val.TheVariants.{Res, Arg}
use Rattle.mlir_tree.specs.Tree.{Ty}
use Rattle.mlir_tree.specs.Module.{home_eq, home_of, is_in_scope}
use Rattle.mlir_parse.specs.declared.syn.SynArg.{SynArg}
use Rattle.mlir_parse.specs.declared.syn.SynResult.{SynResult}
use Rattle.mlir_parse.specs.SynTree.{Operation}
use Rattle.mlir_resolve.specs.Laid.{Laid, region, laid_operation, bare_rows}
use Rattle.mlir_resolve.specs.Sight.{Definition, result_definitions, argument_definitions, region_definitions, row_definitions, definitions, is_of_region, first_in_sight, meaning_at}
use Rattle.mlir_resolve.specs.Scopes.{find_name}
use Rattle.row_index.specs.Walking.{around_place}
use Rattle.mlir_resolve.proofs.Spans.{AllAt, operation_numbers, IsNumber}
use Rattle.mlir_resolve.proofs.RowFacts.{fact_of}
use Rattle.mlir_resolve.proofs.Nested.{blank, row_of_is, earlier_is, enclosing_is}

-- whether the results of a row are values of region h in sight at row u, which these homes are around
abbrev pub shows_results : Home → List Home → ℕ → Laid → Bool
shows_results h around u l =
    option_map_or (home_eq h) l.home false
    && (nat_lt l.id u && (option_map_or (λ x. list_any (home_eq x) around) l.home false && not (list_any (λ x. x.row == l.id) around)))

-- the same of the arguments of region g of row d
abbrev pub shows_arguments : Home → List Home → ℕ → ℕ → Bool
shows_arguments h around d g = home_eq h (region d g) && list_any (home_eq (region d g)) around

abbrev pub shown_regions : Home → List Home → ℕ → ℕ → List (List SynArg) → List Definition
shown_regions h around d g [] = []
shown_regions h around d g (args ∷ more) = (if shows_arguments h around d g then argument_definitions d g 0 args else []) ++ shown_regions h around d (g + 1) more

abbrev pub shown_results : Home → List Home → ℕ → Laid → List Definition
shown_results h around u l = if shows_results h around u l then result_definitions l.id 0 l.head.results l.head.result_types else []

-- the names of a row that stand in sight at row u as names of region h
abbrev pub shown : Home → List Home → ℕ → Laid → List Definition
shown h around u l = shown_results h around u l ++ shown_regions h around l.id 0 l.arguments

-- ---- definitions that pass a test of their first value

pub all_or_none : {A : Type 0} → (b c : Bool) (x : A) (xs ys : List A) → c ≡ b → ys ≡ (if b then xs else []) → cond c (x ∷ ys) ys ≡ (if b then (x ∷ xs) else [])
all_or_none true true x xs ys p q = ap (λ zs. x ∷ zs) q
all_or_none true false x xs ys p q = absurd (cc)
all_or_none false true x xs ys p q = absurd (cc)
all_or_none false false x xs ys p q = q

abbrev nothing : List Definition
nothing = []

none_if : (b : Bool) → nothing ≡ (if b then nothing else nothing)
none_if true = refl
none_if false = refl

pub pass_results : (q : Val → Bool) (d : ℕ) (b : Bool) → ((k : ℕ) → q (Res d k) ≡ b) → (o : ℕ) (rs : List SynResult) (ts : List Ty)
    → filter (λ (x : Definition). q x.first) (result_definitions d o rs ts) ≡ (if b then result_definitions d o rs ts else [])
pass_results q d b is o [] ts = none_if b
pass_results q d b is o (r ∷ rs) ts = all_or_none b (q (Res d o)) _ _ _ (is o) (pass_results q d b is (o + r.count) rs _)

pub pass_arguments : (q : Val → Bool) (d g : ℕ) (b : Bool) → ((k : ℕ) → q (Arg d g k) ≡ b) → (k : ℕ) (args : List SynArg)
    → filter (λ (x : Definition). q x.first) (argument_definitions d g k args) ≡ (if b then argument_definitions d g k args else [])
pass_arguments q d g b is k [] = none_if b
pass_arguments q d g b is k (a ∷ args) = all_or_none b (q (Arg d g k)) _ _ _ (is k) (pass_arguments q d g b is (k + 1) args)

pass_regions : (q : Val → Bool) (h : Home) (around : List Home) (d : ℕ) → ((g k : ℕ) → q (Arg d g k) ≡ shows_arguments h around d g) → (g : ℕ) (more : List (List SynArg))
    → filter (λ (x : Definition). q x.first) (region_definitions d g more) ≡ shown_regions h around d g more
pass_regions q h around d is g [] = refl
pass_regions q h around d is g (args ∷ more) =
    filter-append (λ (x : Definition). q x.first) (argument_definitions d g 0 args) (region_definitions d (g + 1) more)
    ∙ (λ i. pass_arguments q d g (shows_arguments h around d g) (is g) 0 args i ++ pass_regions q h around d is (g + 1) more i)

pub record Tested (q : Val → Bool) (h : Home) (around : List Home) (u : ℕ) (l : Laid) : Type 0 where
  pub results : (k : ℕ) → q (Res l.id k) ≡ shows_results h around u l
  pub arguments : (g k : ℕ) → q (Arg l.id g k) ≡ shows_arguments h around l.id g

pass_row : (q : Val → Bool) (h : Home) (around : List Home) (u : ℕ) (l : Laid) → Tested q h around u l → filter (λ (x : Definition). q x.first) (row_definitions l) ≡ shown h around u l
pass_row q h around u l t =
    filter-append (λ (x : Definition). q x.first) (result_definitions l.id 0 l.head.results l.head.result_types) (region_definitions l.id 0 l.arguments)
    ∙ (λ i. pass_results q l.id (shows_results h around u l) t.results 0 l.head.results l.head.result_types i ++ pass_regions q h around l.id t.arguments 0 l.arguments i)

pub pass_rows : (q : Val → Bool) (h : Home) (around : List Home) (u n : ℕ) (ls : List Laid) → AllAt (λ k l. Tested q h around u l) n ls
    → filter (λ (x : Definition). q x.first) (flat_map row_definitions ls) ≡ flat_map (shown h around u) ls
pass_rows q h around u n [] all = refl
pass_rows q h around u n (l ∷ ls) all =
    filter-append (λ (x : Definition). q x.first) (row_definitions l) (flat_map row_definitions ls)
    ∙ (λ i. pass_row q h around u l all.0 i ++ pass_rows q h around u (suc n) ls all.1 i)

-- ---- looking up

pub bytes_turned : (a b : List ℕ) → bytes_eq a b ≡ bytes_eq b a
bytes_turned a b =
    one_answer (bytes_eq a b) (bytes_eq b a) (bytes_eq-Decides a b) ((λ h. sym ((bytes_eq-Decides b a).0 h)), (λ p. (bytes_eq-Decides b a).1 (sym p)))

find_one : (name : List ℕ) (d : Definition) (b c : Bool) (r : Option Definition) (ds : List Definition) → b ≡ bytes_eq name d.name → r ≡ find_name name ds
    → cond (b && c) (Some d) r ≡ find_name name (cond c (d ∷ ds) ds)
find_one name d true true r ds p q = λ i. cond (p i) (Some d) (q i)
find_one name d false true r ds p q = λ i. cond (p i) (Some d) (q i)
find_one name d true false r ds p q = q
find_one name d false false r ds p q = q

pub find_passed : (name : List ℕ) (q : Val → Bool) (ds : List Definition)
    → find (λ (d : Definition). bytes_eq d.name name && q d.first) ds ≡ find_name name (filter (λ (d : Definition). q d.first) ds)
find_passed name q [] = refl
find_passed name q (d ∷ ds) = find_one name d (bytes_eq d.name name) (q d.first) _ _ (bytes_turned d.name name) (find_passed name q ds)

-- the definition of a name in the first of these scopes that has it
abbrev pub firsts : List ℕ → (Home → List Definition) → List Home → Option Definition
firsts name s [] = None
firsts name s (h ∷ hs) = option_or (find_name name (s h)) (firsts name s hs)

-- ---- the rows of a tree

pub all_from : (P : ℕ → Laid → Type 0) (n : ℕ) (ls : List Laid) → ((k : ℕ) → k < length ls → P (n + k) (get_or ls k blank)) → AllAt P n ls
all_from P n [] f = tt
all_from P n (l ∷ ls) f =
    let e : n + 0 ≡ n = omega arith in (
      subst (λ k. P k l) e (f 0 (omega arith)),
      all_from P (suc n) ls (λ k p. let d : n + suc k ≡ suc n + k = omega arith in subst (λ m. P m (get_or ls k blank)) d (f (suc k) (omega (arith, p)))),
    )

abbrev pub no_values : Laid → List Val
no_values l = []

module _ (o : Operation) where
  abbrev pub tree : List Laid
  tree = laid_operation 0 None o

  abbrev pub around : ℕ → List Home
  around u = around_place (bare_rows tree) u

  abbrev in_sight : Home → ℕ → Val → Bool
  in_sight h u v = is_of_region (bare_rows tree) h v && is_in_scope (bare_rows tree) v u

  tested : (h : Home) (u : ℕ) → u < length tree → AllAt (λ k l. Tested (in_sight h u) h (around u) u l) 0 tree
  tested h u p = all_from (λ k l. Tested (in_sight h u) h (around u) u l) 0 tree (λ k q. at_place k q)
    where
      at_place : (k : ℕ) → k < length tree → Tested (in_sight h u) h (around u) u (get_or tree k blank)
      at_place k q =
          let l = get_or tree k blank in
          let number : l.id ≡ k = fact_of IsNumber tree k blank (operation_numbers 0 None o) q in
          let home : home_of (bare_rows tree) l.id ≡ l.home = ap (home_of (bare_rows tree)) number ∙ ap (option_and_then (λ (r : Row). r.home)) (row_of_is no_values o k q) in
          let earlier = earlier_is no_values o l.id u (omega (arith, number, q)) p in
          let enclosed = enclosing_is no_values o u p in
          record {
            results = λ j i. option_map_or (home_eq h) (home i) false
                && (earlier i && (option_map_or (λ x. list_any (home_eq x) (enclosed i)) (home i) false && not (list_any (λ x. x.row == l.id) (enclosed i))));
            arguments = λ g j i. home_eq h (region l.id g) && list_any (home_eq (region l.id g)) (enclosed i);
          }

  -- what a name means by what each row shows
  pub meaning_by_rows : (u : ℕ) → u < length tree → (name : List ℕ) → meaning_at tree u name ≡ firsts name (λ h. flat_map (shown h (around u) u) tree) (around u)
  unfolding meaning_at definitions
  meaning_by_rows u p name =
      ap (λ hs. first_in_sight (bare_rows tree) (flat_map row_definitions tree) hs name u) (enclosing_is no_values o u p) ∙ by_scopes (around u)
    where
      by_scopes : (hs : List Home) → first_in_sight (bare_rows tree) (flat_map row_definitions tree) hs name u ≡ firsts name (λ h. flat_map (shown h (around u) u) tree) hs
      by_scopes [] = refl
      by_scopes (h ∷ hs) =
          λ i. option_or
          ((find_passed name (in_sight h u) (flat_map row_definitions tree) ∙ ap (find_name name) (pass_rows (in_sight h u) h (around u) u 0 tree (tested h u p))) i)
          (by_scopes hs i)
