-- Small modules on which the checker computes the definitions.
use Rattle.std.proofs.Common.{◌≡◌, ◌<◌, ◌^◌, ℕ, true, false, List, [], ◌∷◌, map, length, drop, Option, Some, None, refl, arith, rules}
use Rattle.std.specs.Prelude.{codes, All, IsSome}
use Rattle.std.specs.List.{IsDistinct}
use Rattle.std.proofs.lemmas.List.Elements.{All-nil, All-from_recursion}
use Rattle.mlir_tree.specs.declared.sign.Sign.TheVariants.{Signless}
use Rattle.mlir_tree.specs.declared.row.Home.{Home}
use Rattle.mlir_tree.specs.declared.row.Row.{Row}
use Rattle.mlir_tree.specs.declared.rows.Rows.{Rows}
use Rattle.mlir_tree.specs.declared.value.Val.{Val}
use Rattle.mlir_tree.specs.declared.value.Val.TheVariants.{Res, Arg}
use Rattle.mlir_tree.specs.Tree.{Ty, int, unit, of_ty}
use Rattle.mlir_tree.specs.Module.{enclosing, is_visible, IsVisible}
use Rattle.mlir_tree.specs.WellFormed.{AreNumbered, AreNested, HasVisibleOperands, HasDictionaries, HasSizes, IsWellFormed}
use Rattle.mlir_tree.proofs.NestedByTest.{nested_by_test}
use Rattle.mlir_tree.specs.Edits.{inserted, put_before, substituted, removed, attribute_of}

abbrev i32 : Ty
i32 = int Signless 32

abbrev within : ℕ → ℕ → Option Home
within d g = Some (record { row = d; region = g })

-- an operation without attributes
abbrev op : ℕ → Option Home → List ℕ → List Val → List Ty → List (List Ty) → Row
op id home name operands results regions =
    record { id = id; home = home; name = name; operands = operands; results = results; props = []; attrs = []; regions = regions }

--     "builtin.module"() ({
--       %0 = "t.a"() : () -> i32
--       %1 = "t.b"(%0) ({
--       ^bb0(%arg0: i32):
--         %2 = "t.c"() ({
--           "t.d"(%0, %arg0) : (i32, i32) -> ()
--         }) : () -> i32
--       }, {
--         "t.e"() : () -> ()
--       }) : (i32) -> i32
--       %3 = "t.f"(%1, %0, %1) : (i32, i32, i32) -> i32
--     }) : () -> ()
abbrev rows : List Row
rows =
    op 0 None (codes "builtin.module") [] [] ([] ∷ [])
    ∷ op 1 (within 0 0) (codes "t.a") [] (i32 ∷ []) []
    ∷ op 2 (within 0 0) (codes "t.b") (Res 1 0 ∷ []) (i32 ∷ []) ((i32 ∷ []) ∷ [] ∷ [])
    ∷ op 3 (within 2 0) (codes "t.c") [] (i32 ∷ []) ([] ∷ [])
    ∷ op 4 (within 3 0) (codes "t.d") (Res 1 0 ∷ Arg 2 0 0 ∷ []) [] []
    ∷ op 5 (within 2 1) (codes "t.e") [] [] []
    ∷ op 6 (within 0 0) (codes "t.f") (Res 2 0 ∷ Res 1 0 ∷ Res 2 0 ∷ []) (i32 ∷ []) []
    ∷ []

abbrev sample : Rows
sample = record { rows = rows; next = 7 }

abbrev ids : Rows → List ℕ
ids m = map (λ r. r.id) m.rows

abbrev home : ℕ → ℕ → Home
home d g = record { row = d; region = g }

around_deepest : enclosing rows 4 ≡ home 3 0 ∷ home 2 0 ∷ home 0 0 ∷ []
unfolding enclosing
around_deepest = refl

-- ---- results

behind_its_row : is_visible rows (Res 1 0) 2 ≡ true
unfolding is_visible enclosing
behind_its_row = refl

inside_a_later_row : is_visible rows (Res 1 0) 4 ≡ true
unfolding is_visible enclosing
inside_a_later_row = refl

behind_its_regions : is_visible rows (Res 2 0) 6 ≡ true
unfolding is_visible enclosing
behind_its_regions = refl

not_in_its_own_region : is_visible rows (Res 2 0) 3 ≡ false
unfolding is_visible enclosing
not_in_its_own_region = refl

not_deeper_in_its_own_region : is_visible rows (Res 2 0) 4 ≡ false
unfolding is_visible enclosing
not_deeper_in_its_own_region = refl

not_before_its_row : is_visible rows (Res 6 0) 2 ≡ false
unfolding is_visible enclosing
not_before_its_row = refl

not_at_its_row : is_visible rows (Res 1 0) 1 ≡ false
unfolding is_visible enclosing
not_at_its_row = refl

not_outside_its_region : is_visible rows (Res 3 0) 6 ≡ false
unfolding is_visible enclosing
not_outside_its_region = refl

not_in_a_sibling_region : is_visible rows (Res 3 0) 5 ≡ false
unfolding is_visible enclosing
not_in_a_sibling_region = refl

no_second_result : is_visible rows (Res 1 1) 2 ≡ false
unfolding is_visible enclosing
no_second_result = refl

-- ---- arguments

argument_in_its_region : is_visible rows (Arg 2 0 0) 3 ≡ true
unfolding is_visible enclosing
argument_in_its_region = refl

argument_deeper : is_visible rows (Arg 2 0 0) 4 ≡ true
unfolding is_visible enclosing
argument_deeper = refl

argument_not_in_a_sibling_region : is_visible rows (Arg 2 0 0) 5 ≡ false
unfolding is_visible enclosing
argument_not_in_a_sibling_region = refl

argument_not_at_its_row : is_visible rows (Arg 2 0 0) 2 ≡ false
unfolding is_visible enclosing
argument_not_at_its_row = refl

argument_not_outside : is_visible rows (Arg 2 0 0) 6 ≡ false
unfolding is_visible enclosing
argument_not_outside = refl

no_second_argument : is_visible rows (Arg 2 0 1) 3 ≡ false
unfolding is_visible enclosing
no_second_argument = refl

-- ---- edits

removed_with_the_rows_inside : ids (removed 2 sample) ≡ 0 ∷ 1 ∷ 6 ∷ []
unfolding removed enclosing
removed_with_the_rows_inside = refl

removing_keeps_next : (removed 2 sample).next ≡ 7
unfolding removed
removing_keeps_next = refl

abbrev fresh : ℕ → Row
fresh id = op id (within 0 0) (codes "t.g") [] [] []

put_before_a_row : ids (inserted (fresh 7) (Some 2) sample) ≡ 0 ∷ 1 ∷ 7 ∷ 2 ∷ 3 ∷ 4 ∷ 5 ∷ 6 ∷ []
unfolding inserted put_before
put_before_a_row = refl

put_last : ids (inserted (fresh 9) None sample) ≡ 0 ∷ 1 ∷ 2 ∷ 3 ∷ 4 ∷ 5 ∷ 6 ∷ 9 ∷ []
unfolding inserted put_before
put_last = refl

next_is_above : (inserted (fresh 9) None sample).next ≡ 10
unfolding inserted
next_is_above = refl

abbrev operands_of : Rows → List (List Val)
operands_of m = map (λ r. r.operands) m.rows

-- two values change places, since all uses are replaced at once
swapped : operands_of (substituted (Res 1 0 ∷ Res 2 0 ∷ []) (Res 2 0 ∷ Res 1 0 ∷ []) sample)
    ≡ [] ∷ [] ∷ (Res 2 0 ∷ []) ∷ [] ∷ (Res 2 0 ∷ Arg 2 0 0 ∷ []) ∷ [] ∷ (Res 1 0 ∷ Res 2 0 ∷ Res 1 0 ∷ []) ∷ []
unfolding substituted
swapped = refl

-- ---- attributes

abbrev with_both : Row
with_both = record (fresh 1) { props = (codes "a", unit) ∷ []; attrs = (codes "a", of_ty i32) ∷ (codes "b", of_ty i32) ∷ [] }

property_first : attribute_of with_both (codes "a") ≡ Some unit
property_first = refl

then_attribute : attribute_of with_both (codes "b") ≡ Some (of_ty i32)
then_attribute = refl

neither : attribute_of with_both (codes "c") ≡ None
neither = refl

-- ---- well-formed rows

abbrev root : Row
root = op 0 None (codes "builtin.module") [] [] ([] ∷ [])

abbrev small : List Row
small =
    root
    ∷ op 1 (within 0 0) (codes "t.a") [] (i32 ∷ []) []
    ∷ op 2 (within 0 0) (codes "t.b") [] [] ((i32 ∷ []) ∷ [])
    ∷ op 3 (within 2 0) (codes "t.c") (Res 1 0 ∷ Arg 2 0 0 ∷ []) [] []
    ∷ []

bare : (id : ℕ) (home : Option Home) (name : List ℕ) (operands : List Val) (results : List Ty) (regions : List (List Ty))
    → HasDictionaries (op id home name operands results regions)
bare id home name operands results regions = record {
  properties = tt;
  attributes = tt;
  apart = λ n p q. absurd (omega (arith, p.1));
}

small_is_numbered : AreNumbered (record { rows = small; next = 4 })
unfolding IsDistinct
small_is_numbered = record {
  differ = ((refl, (refl, (refl, tt))), ((refl, (refl, tt)), ((refl, tt), (tt, tt))));
  below_next = All-from_recursion (λ r. r.id < 4) small (omega arith, (omega arith, (omega arith, (omega arith, tt))));
  begins = (
    record { number = refl; no_home = refl; name = refl; one_region = refl; no_operands = refl; no_results = refl },
    All-from_recursion (λ s. IsSome s.home) (drop 1 small) (search rules, (search rules, (search rules, tt))),
  );
}

small_is_nested : AreNested small
unfolding enclosing
small_is_nested = nested_by_test small refl

small_has_visible_operands : All (HasVisibleOperands small) small
unfolding is_visible enclosing
small_has_visible_operands =
    All-from_recursion (HasVisibleOperands small) small (
      All-nil (λ v. IsVisible small v 0),
      (
        All-nil (λ v. IsVisible small v 1),
        (
          All-nil (λ v. IsVisible small v 2),
          (All-from_recursion (λ v. IsVisible small v 3) (Res 1 0 ∷ Arg 2 0 0 ∷ []) (refl, (refl, tt)), tt),
        ),
      ),
    )

few_arguments : All (λ arguments. length arguments < 2 ^ 16) ((i32 ∷ []) ∷ [])
few_arguments = All-from_recursion (λ arguments. length arguments < 2 ^ 16) ((i32 ∷ []) ∷ []) (omega arith, tt)

small_has_sizes : All HasSizes small
small_has_sizes =
    All-from_recursion HasSizes small (
      record { operands = omega arith; results = omega arith; regions = omega arith; arguments = All-from_recursion (λ arguments. length arguments < 2 ^ 16) ([] ∷ []) (omega arith, tt) },
      (
        record { operands = omega arith; results = omega arith; regions = omega arith; arguments = All-nil (λ arguments. length arguments < 2 ^ 16) },
        (
          record { operands = omega arith; results = omega arith; regions = omega arith; arguments = few_arguments },
          (record { operands = omega arith; results = omega arith; regions = omega arith; arguments = All-nil (λ arguments. length arguments < 2 ^ 16) }, tt),
        ),
      ),
    )

small_is_well_formed : IsWellFormed (record { rows = small; next = 4 })
small_is_well_formed = record {
  numbers = small_is_numbered;
  nesting = small_is_nested;
  operands = small_has_visible_operands;
  dictionaries =
      All-from_recursion HasDictionaries small (
        bare 0 None (codes "builtin.module") [] [] ([] ∷ []),
        (
          bare 1 (within 0 0) (codes "t.a") [] (i32 ∷ []) [],
          (bare 2 (within 0 0) (codes "t.b") [] [] ((i32 ∷ []) ∷ []), (bare 3 (within 2 0) (codes "t.c") (Res 1 0 ∷ Arg 2 0 0 ∷ []) [] [], tt)),
        ),
      );
  sizes = small_has_sizes;
}

rows_are_nested : AreNested rows
unfolding enclosing
rows_are_nested = nested_by_test rows refl

-- a row stands between a row and one that it contains
abbrev split : List Row
split = root ∷ op 1 (within 0 0) [] [] [] ([] ∷ []) ∷ op 2 (within 0 0) [] [] [] [] ∷ op 3 (within 1 0) [] [] [] [] ∷ []

not_between : AreNested split → ⊥
unfolding enclosing
not_between nested = let no : false ≡ true = nested.together 1 2 3 refl refl refl in absurd (cc)

-- a row of the second region stands before one of the first
abbrev turned : List Row
turned = root ∷ op 1 (within 0 0) [] [] [] ([] ∷ [] ∷ []) ∷ op 2 (within 1 1) [] [] [] [] ∷ op 3 (within 1 0) [] [] [] [] ∷ []

not_against_the_order_of_regions : AreNested turned → ⊥
unfolding enclosing
not_against_the_order_of_regions nested = absurd (omega (arith, nested.by_region 1 1 0 2 3 refl refl refl))
