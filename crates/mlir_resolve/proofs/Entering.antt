-- The arguments of a region.
use Rattle.std.proofs.Common.{◌≡◌, ◌<◌, ◌≤◌, ◌+◌, ℕ, suc, Bool, true, false, not, ◌&&◌, List, [], ◌∷◌, ◌++◌, length, Option, Some, None, Result, Ok, Err, refl, sym, ap, subst, ◌∙◌, arith, append_assoc, append-nil}
use Rattle.std.specs.Prelude.{◌==◌, nat_lt, if◌then◌else◌, filter}
use Rattle.std.specs.Option.{option_map_or, is_some}
use Rattle.std.specs.List.{list_any}
use Rattle.std.proofs.lemmas.Bool.{ne_eqb}
use Rattle.std.proofs.lemmas.Bool.Decides.{nat_tests}
use Rattle.std.proofs.lemmas.Grind.{flat_map-append}
use Rattle.std.proofs.lemmas.List.{length-append}
use Rattle.std.proofs.lemmas.List.Elements.{filter-append}
use Rattle.mlir_tree.specs.declared.row.Home.{Home}
use Rattle.mlir_tree.specs.declared.value.Val.{Val}
use Rattle.mlir_tree.specs.declared.value.Val.TheVariants.{Arg}
use Rattle.mlir_tree.specs.Module.{home_eq}
use Rattle.mlir_attributes.specs.declared.fault.ModFault.{ModFault}
use Rattle.mlir_attributes.specs.declared.fault.ModKind.TheVariants as faults
use Rattle.mlir_parse.specs.declared.syn.SynArg.{SynArg}
use Rattle.mlir_parse.specs.SynTree.{Head, Operation}
use Rattle.mlir_resolve.specs.Laid.{Laid, region}
use Rattle.mlir_resolve.specs.Sight.{Definition, result_definitions, argument_definitions, region_definitions, is_named_before}
use Rattle.mlir_resolve.specs.Scopes.{find_name}
use Rattle.mlir_resolve.specs.Resolving.{Twice, twice_fault, arguments_fault, or_then}
use Rattle.mlir_resolve.specs.Walk.{after, unless, put_arguments, argument_definition}
use Rattle.mlir_resolve.proofs.Spans.{AllAt, all_weaker}
use Rattle.mlir_resolve.proofs.Shown.{shown, pass_results, pass_arguments, all_or_none, tree}
use Rattle.mlir_resolve.proofs.Sights.{apart, all_nothing}
use Rattle.mlir_resolve.proofs.Scenes.{front, back, Placed, Before, before_from, Early, early_other, home_apart, region_at, scene}
use Rattle.mlir_resolve.proofs.Earlier.{Refused, refuse_rows, Told, told, test, named_by_filter, split}

-- ---- the names of a region that is entered

module _ (pre mid : List Laid) (n g u : ℕ) (hs : List Home) (home : Option Home) (h : Head) (first : List (List SynArg)) (args : List SynArg) (more : List (List SynArg)) (len : length pre ≡ n) (all : AllAt Placed 0 pre)
    (is_g : length first ≡ g) (outside : (x : Home) → home ≡ Some x → x.row < n) (early : AllAt (λ j x. Early n g x) (suc n) mid) where
  abbrev entered : Laid
  entered = record { id = n; home = home; head = h; arguments = first ++ args ∷ more }

  before_apart : (l : Laid) → Before n 0 l → shown (region n g) (region n g ∷ hs) u l ≡ []
  before_apart l b = apart (region n g) (region n g ∷ hs) u l (by_home l.home refl) (ne_eqb n l.id (λ e. omega (arith, e, b.0)))
    where
      by_home : (o : Option Home) → l.home ≡ o → option_map_or (home_eq (region n g)) o false ≡ false
      by_home None is = refl
      by_home (Some x) is = home_apart (region n g) x (λ p q. omega (arith, p, b.1 x is, b.0))

  own_home : (o : Option Home) → home ≡ o → option_map_or (home_eq (region n g)) o false ≡ false
  own_home None is = refl
  own_home (Some x) is = home_apart (region n g) x (λ p q. omega (arith, p, outside x is))

  shown_entered : shown (region n g) (region n g ∷ hs) u entered ≡ argument_definitions n g 0 args
  shown_entered =
      λ i. (if (own_home home refl i && (nat_lt n u && (option_map_or (λ x. list_any (home_eq x) (region n g ∷ hs)) home false && not (list_any (λ x. x.row == n) (region n g ∷ hs))))) then result_definitions n 0 h.results h.result_types else [])
      ++ region_at n g 0 hs first args more (omega (arith, is_g)) i

  pub scene_region : scene (pre ++ entered ∷ mid) (region n g ∷ hs) u (region n g) ≡ argument_definitions n g 0 args
  scene_region =
      flat_map-append (shown (region n g) (region n g ∷ hs) u) pre (entered ∷ mid)
      ∙ ((λ i. all_nothing (shown (region n g) (region n g ∷ hs) u) 0 pre (all_weaker (Before n) (λ k l. shown (region n g) (region n g ∷ hs) u l ≡ []) 0 pre (λ k l p q b. before_apart l b) (before_from 0 n pre (omega (arith, len)) all)) i
      ++ (shown_entered i
      ++ all_nothing (shown (region n g) (region n g ∷ hs) u) (suc n) mid (all_weaker (λ j x. Early n g x) (λ k l. shown (region n g) (region n g ∷ hs) u l ≡ []) (suc n) mid (λ k l p q e. early_other (region n g ∷ hs) u n g l e) early) i))
      ∙ append-nil (argument_definitions n g 0 args))

-- ---- before an argument

args_behind : (q : Val → Bool) (d g k : ℕ) → ((j : ℕ) → q (Arg d g j) ≡ nat_lt j k) → (at : ℕ) (args : List SynArg) → k ≤ at → filter (λ (x : Definition). q x.first) (argument_definitions d g at args) ≡ []
args_behind q d g k is at [] p = refl
args_behind q d g k is at (a ∷ args) p = all_or_none false (q (Arg d g at)) _ [] _ (is at ∙ grind (arith, nat_tests, p)) (args_behind q d g k is (at + 1) args (omega (arith, p)))

args_front : (q : Val → Bool) (d g k : ℕ) → ((j : ℕ) → q (Arg d g j) ≡ nat_lt j k) → (at : ℕ) (taken rest : List SynArg) → at + length taken ≡ k
    → filter (λ (x : Definition). q x.first) (argument_definitions d g at (taken ++ rest)) ≡ argument_definitions d g at taken
args_front q d g k is at [] rest p = args_behind q d g k is at rest (omega (arith, p))
args_front q d g k is at (a ∷ taken) rest p =
    all_or_none true (q (Arg d g at)) _ (argument_definitions d g (at + 1) taken) _ (is at ∙ below at k (omega (arith, p))) (args_front q d g k is (at + 1) taken rest (omega (arith, p)))
  where
    below : (a b : ℕ) → a < b → nat_lt a b ≡ true
    below a b p = grind (arith, nat_tests, p)

pass_behind_region : (q : Val → Bool) (d g : ℕ) → ((x j : ℕ) → (x ≡ g → ⊥) → q (Arg d x j) ≡ false) → (k : ℕ) (more : List (List SynArg)) → g < k → filter (λ (x : Definition). q x.first) (region_definitions d k more) ≡ []
pass_behind_region q d g is k [] p = refl
pass_behind_region q d g is k (args ∷ more) p =
    filter-append (λ (x : Definition). q x.first) (argument_definitions d k 0 args) (region_definitions d (k + 1) more)
    ∙ (λ i. pass_arguments q d k false (λ j. is k j (λ e. omega (arith, e, p))) 0 args i ++ pass_behind_region q d g is (k + 1) more (omega (arith, p)) i)

pass_region : (q : Val → Bool) (d g n : ℕ) → ((j : ℕ) → q (Arg d g j) ≡ nat_lt j n) → ((x j : ℕ) → (x ≡ g → ⊥) → q (Arg d x j) ≡ false) → (k : ℕ) (first : List (List SynArg)) (taken rest : List SynArg) (more : List (List SynArg))
    → g ≡ k + length first → length taken ≡ n → filter (λ (x : Definition). q x.first) (region_definitions d k (first ++ (taken ++ rest) ∷ more)) ≡ argument_definitions d g 0 taken
pass_region q d g n is other k [] taken rest more e len =
    let same : k ≡ g = omega (arith, e) in
    filter-append (λ (x : Definition). q x.first) (argument_definitions d k 0 (taken ++ rest)) (region_definitions d (k + 1) more)
    ∙ ((λ i. ((λ j. filter (λ (x : Definition). q x.first) (argument_definitions d (same j) 0 (taken ++ rest))) ∙ args_front q d g n is 0 taken rest (omega (arith, len))) i ++ pass_behind_region q d g other (k + 1) more (omega (arith, e)) i)
    ∙ append-nil (argument_definitions d g 0 taken))
pass_region q d g n is other k (args ∷ first) taken rest more e len =
    filter-append (λ (x : Definition). q x.first) (argument_definitions d k 0 args) (region_definitions d (k + 1) (first ++ (taken ++ rest) ∷ more))
    ∙ (λ i. pass_arguments q d k false (λ j. other k j (λ p. omega (arith, e, p))) 0 args i ++ pass_region q d g n is other (k + 1) first taken rest more (omega (arith, e)) len i)

module _ (o : Operation) (pre rest : List Laid) (n g k : ℕ) (l : Laid) (e : tree o ≡ pre ++ l ∷ rest) (len : length pre ≡ n) (number : l.id ≡ n) where
  no_result : (a : Bool) → (a && false) ≡ false
  no_result true = refl
  no_result false = refl

  other_row : (n d g x j k : ℕ) → (d ≡ n → ⊥) → (home_eq (region n g) (region d x) && nat_lt j k) ≡ false
  other_row n d g x j k p = λ i. home_apart (region n g) (region d x) (λ a b. p (sym a)) i && nat_lt j k

  of_other : (l : Laid) → (l.id ≡ n → ⊥) → Refused (test o (region n g) (Arg n g k)) l
  of_other l p = record { results = λ j. no_result _; arguments = λ x j. other_row n l.id g x j k p }

  own_argument : (n g j k : ℕ) → (home_eq (region n g) (region n g) && nat_lt j k) ≡ nat_lt j k
  own_argument n g j k = grind (arith, nat_tests)

  pub named_argument : (first : List (List SynArg)) (taken left : List SynArg) (more : List (List SynArg)) (name : List ℕ) → l.arguments ≡ first ++ (taken ++ left) ∷ more → length first ≡ g → length taken ≡ k
      → is_named_before (tree o) (region n g) name (Arg n g k) ≡ is_some (find_name name (argument_definitions n g 0 taken))
  named_argument first taken left more name are is_g is_k =
      let q = test o (region n g) (Arg n g k) in
      let all = subst (AllAt (Told o) 0) e (told o) in
      let a = refuse_rows q 0 pre (all_weaker (Told o) (λ j x. Refused q x) 0 pre (λ j x p s f. of_other x (λ c. omega (arith, c, f.0.0, s, len))) (front (Told o) 0 pre (l ∷ rest) all)) in
      let c = refuse_rows q (suc (0 + length pre)) rest (all_weaker (Told o) (λ j x. Refused q x) (suc (0 + length pre)) rest (λ j x p s f. of_other x (λ c. omega (arith, c, f.0.0, p, len))) (back (Told o) 0 pre (l ∷ rest) all).1) in
      let b = filter-append (λ (x : Definition). q x.first) (result_definitions l.id 0 l.head.results l.head.result_types) (region_definitions l.id 0 l.arguments) in
      let b1 = pass_results q l.id false (λ j. no_result _) 0 l.head.results l.head.result_types in
      let b2 = (λ i. filter (λ (x : Definition). q x.first) (region_definitions (number i) 0 (are i)))
      ∙ pass_region q n g k (λ j. own_argument n g j k) (λ x j p i. home_apart (region n g) (region n x) (λ a b. p (sym b)) i && nat_lt j k) 0 first taken left more (omega (arith, is_g)) is_k in
      named_by_filter o (region n g) name (Arg n g k)
      ∙ ap (λ ds. is_some (find_name name ds))
      (split o q pre rest l e
      ∙ ((λ i. a i ++ ((b ∙ (λ j. b1 j ++ b2 j)) i ++ c i)) ∙ append-nil (argument_definitions n g 0 taken)))

-- ---- names that are put

pub one_put : {A : Type 0} → (b c : Bool) (at : ℕ) (scope : List Definition) (f : List Definition → Result A ModFault) (rest : Option ModFault) (a : A)
    → b ≡ c → f scope ≡ unless rest (Ok a)
    → after (if b then Err (record { kind = faults.Redefined; at = at }) else Ok scope) f ≡ unless (or_then (twice_fault c at) rest) (Ok a)
one_put true true at scope f rest a p q = refl
one_put true false at scope f rest a p q = absurd (cc)
one_put false true at scope f rest a p q = absurd (cc)
one_put false false at scope f rest a p q = q

args_more : (d g k : ℕ) (taken : List SynArg) (a : SynArg) → argument_definitions d g k taken ++ argument_definition d g (k + length taken) a ∷ [] ≡ argument_definitions d g k (taken ++ a ∷ [])
args_more d g k [] a = let e : k + 0 ≡ k = omega arith in ap (λ j. argument_definition d g j a ∷ []) e
args_more d g k (t ∷ taken) a =
    let e : k + suc (length taken) ≡ k + 1 + length taken = omega arith in
    ap (λ ds. argument_definition d g k t ∷ ds) (ap (λ j. argument_definitions d g (k + 1) taken ++ argument_definition d g j a ∷ []) e ∙ args_more d g (k + 1) taken a)

pub arguments_law : (twice : Twice) (d g k : ℕ) (taken args : List SynArg) → length taken ≡ k
    → ((before : List SynArg) (a : SynArg) (behind : List SynArg) → taken ++ args ≡ before ++ a ∷ behind → twice a.name (Arg d g (length before)) ≡ is_some (find_name a.name (argument_definitions d g 0 before)))
    → put_arguments d g k args (argument_definitions d g 0 taken) ≡ unless (arguments_fault twice d g k args) (Ok (argument_definitions d g 0 (taken ++ args)))
arguments_law twice d g k taken [] e is = ap (λ ts. Ok (argument_definitions d g 0 ts)) (sym (append-nil taken))
arguments_law twice d g k taken (a ∷ args) e is =
    let whole = append_assoc taken (a ∷ []) args in
    let rest = arguments_law twice d g (k + 1) (taken ++ a ∷ []) args (length-append taken (a ∷ []) ∙ omega (arith, e)) (λ before x behind p. is before x behind (sym whole ∙ p)) in
    let at : k ≡ 0 + length taken = omega (arith, e) in
    let scope = (λ i. argument_definitions d g 0 taken ++ argument_definition d g (at i) a ∷ []) ∙ args_more d g 0 taken a in
    let same = sym (is taken a args refl) ∙ ap (λ j. twice a.name (Arg d g j)) e in
    one_put _ (twice a.name (Arg d g k)) a.at (argument_definitions d g 0 taken ++ argument_definition d g k a ∷ []) (put_arguments d g (k + 1) args) (arguments_fault twice d g (k + 1) args) (argument_definitions d g 0 (taken ++ a ∷ args))
    same (ap (put_arguments d g (k + 1) args) scope ∙ (rest ∙ ap (λ ts. unless (arguments_fault twice d g (k + 1) args) (Ok (argument_definitions d g 0 ts))) whole))
