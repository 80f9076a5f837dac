-- A module of the tests, which is well formed.
use Rattle.std.proofs.lemmas.List.{at_drop_more, at_drop_all}
use Rattle.std.proofs.Common.{append_assoc, get_or, ◌≤◌, ◌≡◌, ◌∙◌, ◌+◌, ◌++◌, replicate, ◌<◌, ◌^◌, ℕ, List, [], ◌∷◌, map, length, drop, zero, suc, Option, None, refl, sym, ap, arith, rules}
use Rattle.std.specs.Prelude.{codes, slice_index_or, All, IsSome, Contains}
use Rattle.std.specs.List.{IsDistinct}
use Rattle.std.proofs.lemmas.List.Elements.{All-nil, All-from_recursion}
use Rattle.mlir_tree.specs.declared.row.Home.{Home}
use Rattle.mlir_tree.specs.declared.row.Row.{Row}
use Rattle.mlir_tree.specs.declared.value.Val.{Val}
use Rattle.mlir_tree.specs.declared.value.Val.TheVariants.{Res, Arg}
use Rattle.mlir_tree.specs.Tree.{Ty, unit, of_ty}
use Rattle.mlir_tree.specs.Module.{enclosing, is_visible, IsVisible}
use Rattle.mlir_tree.specs.WellFormed.{AreNumbered, AreNested, HasVisibleOperands, HasDictionaries, HasSizes, IsWellFormed}
use Rattle.mlir_tree.proofs.NestedByTest.{nested_by_test}
use Rattle.mlir_print.proofs.ModuleExamples.{i32, within, op, root}

abbrev pub described : Row
described = record (op 6 (within 0 0) (codes "t.f") [] (i32 ∷ []) ([] ∷ [])) {
  props = (codes "a", of_ty i32) ∷ (codes "b", unit) ∷ [];
  attrs = (codes "c d", unit) ∷ [];
}

abbrev pub nested : List Row
nested =
    root
    ∷ op 1 (within 0 0) (codes "t.src") [] (i32 ∷ i32 ∷ []) []
    ∷ op 2 (within 0 0) (codes "t.loop") (Res 1 1 ∷ []) (i32 ∷ []) ((i32 ∷ i32 ∷ []) ∷ [] ∷ [])
    ∷ op 4 (within 2 0) (codes "t.in") (Arg 2 0 1 ∷ []) (i32 ∷ []) ((i32 ∷ []) ∷ [])
    ∷ op 3 (within 4 0) (codes "t.use") (Arg 4 0 0 ∷ Res 1 0 ∷ []) [] []
    ∷ op 5 (within 2 0) (codes "t.end") (Res 4 0 ∷ []) [] []
    ∷ described
    ∷ []

bare : (id : ℕ) (home : Option Home) (name : List ℕ) (operands : List Val) (results : List Ty) (regions : List (List Ty))
    → HasDictionaries (op id home name operands results regions)
bare id home name operands results regions = record {
  properties = tt;
  attributes = tt;
  apart = λ n p q. absurd (omega (arith, p.1));
}

abbrev few : List Ty → Type 0
few arguments = length arguments < 2 ^ 16

-- ---- the module without rows inside it

pub root_is_well_formed : IsWellFormed (record { rows = root ∷ []; next = 1 })
unfolding IsDistinct enclosing is_visible
root_is_well_formed = record {
  numbers = record {
    differ = (tt, tt);
    below_next = All-from_recursion (λ r. r.id < 1) (root ∷ []) (omega arith, tt);
    begins = (
      record { number = refl; no_home = refl; name = refl; one_region = refl; no_operands = refl; no_results = refl },
      All-nil (λ s. IsSome s.home),
    );
  };
  nesting = nested_by_test (root ∷ []) refl;
  operands = All-from_recursion (HasVisibleOperands (root ∷ [])) (root ∷ []) (All-nil (λ v. IsVisible (root ∷ []) v 0), tt);
  dictionaries = All-from_recursion HasDictionaries (root ∷ []) (bare 0 None (codes "builtin.module") [] [] ([] ∷ []), tt);
  sizes = All-from_recursion HasSizes (root ∷ []) (
    record { operands = omega arith; results = omega arith; regions = omega arith; arguments = All-from_recursion few ([] ∷ []) (omega arith, tt) },
    tt,
  );
}

-- ---- the module of all forms

others_name : (name : List ℕ) → Contains (codes "a" ∷ codes "b" ∷ []) name → Contains (codes "c d" ∷ []) name → ⊥
others_name name p q = absurd (omega (arith, short p.0 p.1 p.2, long q.0 q.1 q.2))
  where
    short : (k : ℕ) → k < 2 → slice_index_or (codes "a" ∷ codes "b" ∷ []) k name ≡ name → length name ≡ 1
    short zero lt e = sym (ap length e)
    short (suc zero) lt e = sym (ap length e)
    short (suc (suc k)) lt e = absurd (omega (arith, lt))

    long : (k : ℕ) → k < 1 → slice_index_or (codes "c d" ∷ []) k name ≡ name → length name ≡ 3
    long zero lt e = sym (ap length e)
    long (suc k) lt e = absurd (omega (arith, lt))

described_dictionaries : HasDictionaries described
described_dictionaries = record { properties = (refl, tt); attributes = tt; apart = others_name }

nested_is_numbered : AreNumbered (record { rows = nested; next = 9 })
unfolding IsDistinct
nested_is_numbered = record {
  differ = ((refl, (refl, (refl, (refl, (refl, (refl, tt)))))), ((refl, (refl, (refl, (refl, (refl, tt))))), ((refl, (refl, (refl, (refl, tt)))), ((refl, (refl, (refl, tt))), ((refl, (refl, tt)), ((refl, tt), (tt, tt)))))));
  below_next = All-from_recursion (λ r. r.id < 9) nested (omega arith, (omega arith, (omega arith, (omega arith, (omega arith, (omega arith, (omega arith, tt)))))));
  begins = (
    record { number = refl; no_home = refl; name = refl; one_region = refl; no_operands = refl; no_results = refl },
    All-from_recursion (λ s. IsSome s.home) (drop 1 nested) (search rules, (search rules, (search rules, (search rules, (search rules, (search rules, tt)))))),
  );
}

nested_is_nested : AreNested nested
unfolding enclosing
nested_is_nested = nested_by_test nested refl

nested_has_visible_operands : All (HasVisibleOperands nested) nested
unfolding is_visible enclosing
nested_has_visible_operands = All-from_recursion (HasVisibleOperands nested) nested (All-nil (λ v. IsVisible nested v 0), (All-nil (λ v. IsVisible nested v 1), (All-from_recursion (λ v. IsVisible nested v 2) (Res 1 1 ∷ []) (refl, tt), (All-from_recursion (λ v. IsVisible nested v 4) (Arg 2 0 1 ∷ []) (refl, tt), (All-from_recursion (λ v. IsVisible nested v 3) (Arg 4 0 0 ∷ Res 1 0 ∷ []) (refl, (refl, tt)), (All-from_recursion (λ v. IsVisible nested v 5) (Res 4 0 ∷ []) (refl, tt), (All-nil (λ v. IsVisible nested v 6), tt)))))))

nested_has_sizes : All HasSizes nested
nested_has_sizes = All-from_recursion HasSizes nested (record { operands = omega arith; results = omega arith; regions = omega arith; arguments = All-from_recursion few ([] ∷ []) (omega arith, tt) }, (record { operands = omega arith; results = omega arith; regions = omega arith; arguments = All-nil few }, (record { operands = omega arith; results = omega arith; regions = omega arith; arguments = All-from_recursion few ((i32 ∷ i32 ∷ []) ∷ [] ∷ []) (omega arith, (omega arith, tt)) }, (record { operands = omega arith; results = omega arith; regions = omega arith; arguments = All-from_recursion few ((i32 ∷ []) ∷ []) (omega arith, tt) }, (record { operands = omega arith; results = omega arith; regions = omega arith; arguments = All-nil few }, (record { operands = omega arith; results = omega arith; regions = omega arith; arguments = All-nil few }, (record { operands = omega arith; results = omega arith; regions = omega arith; arguments = All-from_recursion few ([] ∷ []) (omega arith, tt) }, tt)))))))

pub nested_is_well_formed : IsWellFormed (record { rows = nested; next = 9 })
nested_is_well_formed = record {
  numbers = nested_is_numbered;
  nesting = nested_is_nested;
  operands = nested_has_visible_operands;
  dictionaries = All-from_recursion HasDictionaries nested (bare 0 None (codes "builtin.module") [] [] ([] ∷ []), (bare 1 (within 0 0) (codes "t.src") [] (i32 ∷ i32 ∷ []) [], (bare 2 (within 0 0) (codes "t.loop") (Res 1 1 ∷ []) (i32 ∷ []) ((i32 ∷ i32 ∷ []) ∷ [] ∷ []), (bare 4 (within 2 0) (codes "t.in") (Arg 2 0 1 ∷ []) (i32 ∷ []) ((i32 ∷ []) ∷ []), (bare 3 (within 4 0) (codes "t.use") (Arg 4 0 0 ∷ Res 1 0 ∷ []) [] [], (bare 5 (within 2 0) (codes "t.end") (Res 4 0 ∷ []) [] [], (described_dictionaries, tt)))))));
  sizes = nested_has_sizes;
}

-- ---- lists of one type

pub one_more : (n : ℕ) (t : Ty) → replicate n t ++ t ∷ [] ≡ replicate (n + 1) t
one_more n t = snoc n ∙ (let e : suc n ≡ n + 1 = omega arith in ap (λ k. replicate k t) e)
  where
    snoc : (n : ℕ) → replicate n t ++ t ∷ [] ≡ replicate (suc n) t
    snoc zero = refl
    snoc (suc n) = ap (λ l. t ∷ l) (snoc n)

abbrev pub arguments : ℕ → List Ty
arguments n = replicate n i32

-- one list of arguments more
pub regions_more : (list more : List (List Ty)) (counts : List ℕ) (i : ℕ) → i < length counts → more ≡ list ++ arguments (get_or counts i 0) ∷ []
    → list ++ map arguments (drop i counts) ≡ map arguments counts → more ++ map arguments (drop (i + 1) counts) ≡ map arguments counts
regions_more list more counts i lt e so_far =
    ap (λ l. l ++ map arguments (drop (i + 1) counts)) e
    ∙ (append_assoc list (arguments (get_or counts i 0) ∷ []) (map arguments (drop (i + 1) counts))
    ∙ (ap (λ l. list ++ l) (sym (at_drop_more (map arguments) counts i 0 lt)) ∙ so_far))

pub regions_all : (list : List (List Ty)) (counts : List ℕ) (i : ℕ) → length counts ≤ i → list ++ map arguments (drop i counts) ≡ map arguments counts → list ≡ map arguments counts
regions_all list counts i le so_far = sym (nothing_behind list) ∙ (ap (λ l. list ++ l) (sym (at_drop_all (map arguments) counts i le)) ∙ so_far)
  where
    nothing_behind : (xs : List (List Ty)) → xs ++ [] ≡ xs
    nothing_behind [] = refl
    nothing_behind (x ∷ xs) = ap (λ l. x ∷ l) (nothing_behind xs)
