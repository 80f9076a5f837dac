-- Small modules on which the checker computes matches and steps.
use Rattle.std.specs.Prelude.{◌≡◌, ℕ, true, false, List, [], ◌∷◌, Some, Ok, Err, codes}
use Rattle.std.proofs.Common.{refl}
use Rattle.row_index.specs.BadUses.{bad_use}
use Rattle.mlir_tree.specs.declared.row.Row.{Row}
use Rattle.mlir_tree.specs.declared.rows.Rows.{Rows}
use Rattle.mlir_tree.specs.declared.value.Val.TheVariants.{Res}
use Rattle.mlir_tree.specs.Tree.{Ty, word, Attr, unit, of_ty}
use Rattle.mlir_tree.specs.Module.{enclosing, is_visible}
use Rattle.mlir_tree.specs.Edits.{inserted, put_before, substituted, removed}
use Rattle.native_set.specs.declared.native.Kind.TheVariants as kind
use Rattle.rewrite_model.specs.declared.run.Break.TheVariants.{Gone, Top, NativeRefused, BadUse}
use Rattle.rewrite_model.specs.declared.run.BoundKind.TheVariants.{RowLimit, SlotLimit}
use Rattle.rewrite_model.specs.Pattern.{the, Part, stands, has_name, has_parts, matched, made, new_operation, results_of, result_types_of, makes, replaces, erases, Pattern}
use Rattle.rewrite_model.specs.Things.{Thing, an_op, a_value, some_values, an_attr, some_types}
use Rattle.rewrite_model.specs.Matching.{MatchesBy}
use Rattle.rewrite_model.specs.Making.{breaks, bound, Start, Progress, Outcome, making}
use Rattle.rewrite_model.specs.Step.{start_at, rewritten, step, made_numbers, removed_numbers}
use Rattle.rewrite_model.proofs.Samples.{top, op, module_of, i8, i32, integer}
use Rattle.rewrite_model.proofs.ExpandingExamples.{reshape_reshape, low, high, same, self_use, swap, two, fuse, drop_dead, fold}

-- ---- a reshape of a reshape

--     %0 = "t.src"() : () -> tensor<4xf32>
--     %1 = "t.reshape"(%0) : (tensor<4xf32>) -> tensor<2x2xf32>
--     %2 = "t.reshape"(%1) : (tensor<2x2xf32>) -> tensor<1x4xf32>
--     "t.use"(%2) : (tensor<1x4xf32>) -> ()
abbrev pub shapes : Rows
shapes = module_of
    (op 1 (codes "t.src") [] (word (codes "tensor<4xf32>") ∷ [])
    ∷ op 2 (codes "t.reshape") (Res 1 0 ∷ []) (word (codes "tensor<2x2xf32>") ∷ [])
    ∷ op 3 (codes "t.reshape") (Res 2 0 ∷ []) (word (codes "tensor<1x4xf32>") ∷ [])
    ∷ op 4 (codes "t.use") (Res 3 0 ∷ []) [] ∷ []) 5

abbrev pub shapes_after : Rows
shapes_after = module_of
    (op 1 (codes "t.src") [] (word (codes "tensor<4xf32>") ∷ [])
    ∷ op 2 (codes "t.reshape") (Res 1 0 ∷ []) (word (codes "tensor<2x2xf32>") ∷ [])
    ∷ op 5 (codes "t.reshape") (Res 1 0 ∷ []) (word (codes "tensor<1x4xf32>") ∷ [])
    ∷ op 4 (codes "t.use") (Res 5 0 ∷ []) [] ∷ []) 6

abbrev pub shapes_given : List Thing
shapes_given = a_value (Res 1 0) ∷ some_types (word (codes "tensor<2x2xf32>") ∷ []) ∷ an_op 2 ∷ some_types (word (codes "tensor<1x4xf32>") ∷ []) ∷ an_op 3 ∷ []

pub shapes_match : MatchesBy shapes.rows reshape_reshape shapes_given 3
shapes_match = record {
  assigned = record { kinds_fit = refl; are_things = refl };
  holds = ((_, refl), ((_, refl), (refl, ((_, refl, record { operands = refl; entries = tt; types = refl }), ((_, refl), ((_, refl), (refl, ((_, refl, record { operands = refl; entries = tt; types = refl }), tt))))))));
  root = refl;
}

pub shapes_step : step reshape_reshape shapes_given 3 shapes ≡ Ok shapes_after
unfolding step rewritten bad_use is_visible enclosing inserted put_before substituted removed
shapes_step = refl

shapes_made : made_numbers shapes shapes_after ≡ 5 ∷ []
shapes_made = refl

shapes_removed : removed_numbers shapes shapes_after ≡ 3 ∷ []
shapes_removed = refl

-- ---- two patterns at one operation

--     "t.a"() : () -> ()
abbrev pub one_a : List Ty → Rows
one_a ts = module_of (op 1 (codes "t.a") [] ts ∷ []) 2

abbrev pub one_a_given : List Ty → List Thing
one_a_given ts = some_values [] ∷ some_types ts ∷ an_op 1 ∷ []

pub one_a_matches : MatchesBy (one_a []).rows low (one_a_given []) 1
one_a_matches = record {
  assigned = record { kinds_fit = refl; are_things = refl };
  holds = ((_, refl), ((_, refl), (refl, ((_, refl, record { operands = refl; entries = tt; types = refl }), tt))));
  root = refl;
}

low_step : step low (one_a_given []) 1 (one_a []) ≡ Ok (module_of [] 2)
unfolding step rewritten bad_use is_visible enclosing inserted put_before substituted removed
low_step = refl

high_step : step high (one_a_given []) 1 (one_a []) ≡ Ok (module_of (op 2 (codes "t.b") [] [] ∷ []) 3)
unfolding step rewritten bad_use is_visible enclosing inserted put_before substituted removed
high_step = refl

-- ---- one variable at two places

--     %p:2 = "t.src"() : () -> (i32, i32)
--     %0 = "t.sub"(%p#0, %p#1) : (i32, i32) -> i32
--     %1 = "t.sub"(%p#1, %p#1) : (i32, i32) -> i32
abbrev pub subs : Rows
subs = module_of
    (op 1 (codes "t.src") [] (i32 ∷ i32 ∷ [])
    ∷ op 2 (codes "t.sub") (Res 1 0 ∷ Res 1 1 ∷ []) (i32 ∷ [])
    ∷ op 3 (codes "t.sub") (Res 1 1 ∷ Res 1 1 ∷ []) (i32 ∷ []) ∷ []) 4

abbrev pub subs_given : List Thing
subs_given = a_value (Res 1 1) ∷ some_types (i32 ∷ []) ∷ an_op 3 ∷ []

pub subs_match : MatchesBy subs.rows same subs_given 3
subs_match = record {
  assigned = record { kinds_fit = refl; are_things = refl };
  holds = ((_, refl), ((_, refl), (refl, ((_, refl, record { operands = refl; entries = tt; types = refl }), tt))));
  root = refl;
}

subs_step : step same subs_given 3 subs ≡ Ok (module_of
    (op 1 (codes "t.src") [] (i32 ∷ i32 ∷ [])
    ∷ op 2 (codes "t.sub") (Res 1 0 ∷ Res 1 1 ∷ []) (i32 ∷ [])
    ∷ op 4 (codes "t.zero") [] (i32 ∷ []) ∷ []) 5)
unfolding step rewritten bad_use is_visible enclosing inserted put_before substituted removed
subs_step = refl

-- ---- steps that break

-- The new operation uses its own result.
own_result : step self_use (one_a_given (i32 ∷ [])) 1 (one_a (i32 ∷ [])) ≡ Err (breaks (BadUse 2 0))
unfolding step rewritten bad_use is_visible enclosing inserted put_before substituted removed
own_result = refl

--     %0 = "t.a"() : () -> i32
--     "t.u"(%0) : (i32) -> ()
--     "t.b"(%0) : (i32) -> ()
abbrev used_twice : Rows
used_twice = module_of (op 1 (codes "t.a") [] (i32 ∷ []) ∷ op 2 (codes "t.u") (Res 1 0 ∷ []) [] ∷ op 3 (codes "t.b") (Res 1 0 ∷ []) [] ∷ []) 4

-- The replacement of the inner operation stands behind a use of it.
used_before : step swap (some_values [] ∷ some_types (i32 ∷ []) ∷ an_op 1 ∷ some_types [] ∷ an_op 3 ∷ []) 3 used_twice ≡ Err (breaks (BadUse 2 0))
unfolding step rewritten bad_use is_visible enclosing inserted put_before substituted removed
used_before = refl

--     %0 = "t.a"() : () -> i32
--     "t.b"(%0, %0) : (i32, i32) -> ()
abbrev a_twice : Rows
a_twice = module_of (op 1 (codes "t.a") [] (i32 ∷ []) ∷ op 2 (codes "t.b") (Res 1 0 ∷ Res 1 0 ∷ []) [] ∷ []) 3

abbrev a_twice_given : List Thing
a_twice_given = some_values [] ∷ some_types (i32 ∷ []) ∷ an_op 1 ∷ some_values [] ∷ some_types (i32 ∷ []) ∷ an_op 1 ∷ some_types [] ∷ an_op 2 ∷ []

two_match : MatchesBy a_twice.rows two a_twice_given 2
two_match = record {
  assigned = record { kinds_fit = refl; are_things = refl };
  holds = ((_, refl), ((_, refl), (refl, ((_, refl, record { operands = refl; entries = tt; types = refl }), ((_, refl), ((_, refl), (refl, ((_, refl, record { operands = refl; entries = tt; types = refl }), ((_, refl), ((_, refl), ((_, refl), (refl, ((_, refl, record { operands = refl; entries = tt; types = refl }), tt)))))))))))));
  root = refl;
}

-- One operation by two names is removed twice.
removed_twice : step two a_twice_given 2 a_twice ≡ Err (breaks Gone)
unfolding step rewritten bad_use is_visible enclosing inserted put_before substituted removed
removed_twice = refl

-- Pattern => erase op<builtin.module>;
abbrev erase_module : Pattern
erase_module = record {
  name = [];
  benefit = 1;
  kinds = kind.Values ∷ kind.Tys ∷ kind.Op ∷ [];
  places = 18 ∷ 18 ∷ 18 ∷ [];
  demands = stands (the 0) ∷ stands (the 1) ∷ has_name 2 (codes "builtin.module") ∷ has_parts 2 (record { operands = the 0 ∷ []; entries = []; types = the 1 ∷ [] }) ∷ [];
  root = 2;
  actions = erases (matched (the 2)) ∷ [];
}

the_module : step erase_module (some_values [] ∷ some_types [] ∷ an_op 0 ∷ []) 0 (module_of [] 1) ≡ Err (breaks Top)
unfolding step rewritten bad_use is_visible enclosing inserted put_before substituted removed
the_module = refl

-- ---- a use count that changes two operands away

--     %0 = "t.a"() : () -> i32
--     %1 = "t.b"(%0) : (i32) -> i32
--     %2 = "t.c"(%1) : (i32) -> i32
--     "t.dead"(%0) : (i32) -> ()
abbrev pub with_dead : List Row → Rows
with_dead more = module_of
    (op 1 (codes "t.a") [] (i32 ∷ [])
    ∷ op 2 (codes "t.b") (Res 1 0 ∷ []) (i32 ∷ [])
    ∷ op 3 (codes "t.c") (Res 2 0 ∷ []) (i32 ∷ [])
    ∷ more) 5

abbrev pub fuse_given : List Thing
fuse_given = some_values [] ∷ some_types (i32 ∷ []) ∷ an_op 1 ∷ some_types (i32 ∷ []) ∷ an_op 2 ∷ some_types (i32 ∷ []) ∷ an_op 3 ∷ []

-- Without the dead operation the first value has one use.
pub fuse_match : MatchesBy (with_dead []).rows fuse fuse_given 3
fuse_match = record {
  assigned = record { kinds_fit = refl; are_things = refl };
  holds = ((_, refl), ((_, refl), (refl, ((_, refl, record { operands = refl; entries = tt; types = refl }), ((_, refl), ((_, refl), (refl, ((_, refl, record { operands = refl; entries = tt; types = refl }), ((_, refl), ((_, refl), (refl, ((_, refl, record { operands = refl; entries = tt; types = refl }), ((_, refl), ((_, refl, refl), tt))))))))))))));
  root = refl;
}

pub drop_step : step drop_dead (some_values (Res 1 0 ∷ []) ∷ some_types [] ∷ an_op 4 ∷ []) 4 (with_dead (op 4 (codes "t.dead") (Res 1 0 ∷ []) [] ∷ [])) ≡ Ok (with_dead [])
unfolding step rewritten bad_use is_visible enclosing inserted put_before substituted removed
drop_step = refl

pub fuse_step : step fuse fuse_given 3 (with_dead []) ≡ Ok (module_of
    (op 1 (codes "t.a") [] (i32 ∷ [])
    ∷ op 2 (codes "t.b") (Res 1 0 ∷ []) (i32 ∷ [])
    ∷ op 5 (codes "t.abc") [] (i32 ∷ []) ∷ []) 6)
unfolding step rewritten bad_use is_visible enclosing inserted put_before substituted removed
fuse_step = refl

-- ---- a sum of constants, of which one is an attribute and the other a property

abbrev value : Attr → List (List ℕ × Attr)
value v = (codes "value", v) ∷ []

abbrev constant : ℕ → Attr → Row
constant id v = record (op id (codes "t.const") [] (i8 ∷ [])) { attrs = value v }

abbrev second : Attr → Row
second v = record (op 2 (codes "t.const") [] (i8 ∷ [])) { props = value v }

--     %0 = "t.const"() {value = 100 : i8} : () -> i8
--     %1 = "t.const"() <{value = 50 : i8}> : () -> i8
--     %2 = "t.add"(%0, %1) : (i8, i8) -> i8
abbrev sums : Attr → Rows
sums v = module_of (constant 1 (integer false 100 i8) ∷ second v ∷ op 3 (codes "t.add") (Res 1 0 ∷ Res 2 0 ∷ []) (i8 ∷ []) ∷ []) 4

abbrev sums_given : Attr → List Thing
sums_given v =
    some_values [] ∷ an_attr (integer false 100 i8) ∷ some_types (i8 ∷ []) ∷ an_op 1
    ∷ some_values [] ∷ an_attr v ∷ some_types (i8 ∷ []) ∷ an_op 2
    ∷ some_types (i8 ∷ []) ∷ an_op 3 ∷ []

sums_match : MatchesBy (sums (integer false 50 i8)).rows fold (sums_given (integer false 50 i8)) 3
sums_match = record {
  assigned = record { kinds_fit = refl; are_things = refl };
  holds = ((_, refl), ((_, refl), ((_, refl), (refl, ((_, refl, record { operands = refl; entries = ((_, refl, refl), tt); types = refl }), ((_, refl), ((_, refl), ((_, refl), (refl, ((_, refl, record { operands = refl; entries = ((_, refl, refl), tt); types = refl }), ((_, refl), ((_, refl), ((_, refl), (refl, ((_, refl, record { operands = refl; entries = tt; types = refl }), ((_, refl, refl), ((_, refl, refl), tt)))))))))))))))));
  root = refl;
}

-- 100 + 50 is -106 in 8 bits.
sums_step : step fold (sums_given (integer false 50 i8)) 3 (sums (integer false 50 i8))
    ≡ Ok (module_of (constant 1 (integer false 100 i8) ∷ second (integer false 50 i8) ∷ constant 4 (integer true 106 i8) ∷ []) 5)
unfolding step rewritten bad_use is_visible enclosing inserted put_before substituted removed
sums_step = refl

-- Integers of two types have no sum.
other_type : step fold (sums_given (integer false 50 i32)) 3 (sums (integer false 50 i32)) ≡ Err (breaks NativeRefused)
unfolding step rewritten bad_use is_visible enclosing inserted put_before substituted removed
other_type = refl

-- ---- operations with regions

abbrev with_region : ℕ → List ℕ → Row
with_region id n = record (op id n [] []) { regions = [] ∷ [] }

abbrev inside : ℕ → Row → Row
inside d r = record r { home = Some (record { row = d; region = 0 }) }

--     %0 = "t.a"() : () -> i32
--     "t.r"() ({
--       "t.u"(%0) : (i32) -> ()
--     }) : () -> ()
abbrev around : ℕ → List ℕ → ℕ → Rows
around id n next = module_of (op id n [] (i32 ∷ []) ∷ with_region 2 (codes "t.r") ∷ inside 2 (op 3 (codes "t.u") (Res id 0 ∷ []) []) ∷ []) next

-- Pattern R => replace op<t.a> with op<t.b>;
abbrev replace_a : Pattern
replace_a = record low {
  name = codes "R";
  actions =
      makes (result_types_of (matched (the 2)))
      ∷ makes (new_operation (codes "t.b") (record { operands = []; entries = []; types = made 0 ∷ [] }))
      ∷ makes (results_of (made 1))
      ∷ replaces (matched (the 2)) (made 2 ∷ [])
      ∷ [];
}

use_inside : step replace_a (one_a_given (i32 ∷ [])) 1 (around 1 (codes "t.a") 4) ≡ Ok (around 4 (codes "t.b") 5)
unfolding step rewritten bad_use is_visible enclosing inserted put_before substituted removed
use_inside = refl

-- Pattern E => erase op<t.r>;
rows_inside : step low (some_values [] ∷ some_types [] ∷ an_op 2 ∷ []) 2 (around 4 (codes "t.b") 5) ≡ Ok (module_of (op 4 (codes "t.b") [] (i32 ∷ []) ∷ []) 5)
unfolding step rewritten bad_use is_visible enclosing inserted put_before substituted removed
rows_inside = refl

both_removed : removed_numbers (around 4 (codes "t.b") 5) (module_of (op 4 (codes "t.b") [] (i32 ∷ []) ∷ []) 5) ≡ 2 ∷ 3 ∷ []
both_removed = refl

-- ---- new operations

abbrev start : Start
start = start_at (one_a []) (one_a_given []) 1

abbrev progress : ℕ → ℕ → Progress
progress rows slots = record { now = one_a []; made = an_attr unit ∷ an_attr (of_ty i8) ∷ some_types (i32 ∷ i32 ∷ []) ∷ []; rows = rows; slots = slots }

-- op<t.n>() {b = .., a = ..} -> (..)
abbrev entries : List (List ℕ × Part)
entries = (codes "b", made 0) ∷ (codes "a", made 1) ∷ []

abbrev new : Progress → Outcome Progress
new p = making start p (new_operation (codes "t.n") (record { operands = []; entries = entries; types = made 2 ∷ [] }))

-- Attributes are put in the order of their names. The new operation stands just before the root.
in_order : new (progress 3999999 15999998) ≡ Ok (record {
  now = record { rows = top ∷ record (op 2 (codes "t.n") [] (i32 ∷ i32 ∷ [])) { attrs = (codes "a", of_ty i8) ∷ (codes "b", unit) ∷ [] } ∷ op 1 (codes "t.a") [] [] ∷ []; next = 3 };
  made = an_attr unit ∷ an_attr (of_ty i8) ∷ some_types (i32 ∷ i32 ∷ []) ∷ an_op 2 ∷ [];
  rows = 4000000;
  slots = 16000000;
})
unfolding inserted put_before
in_order = refl

-- The limit on operations comes before the one on operands and results.
no_rows : new (progress 4000000 16000000) ≡ Err (bound RowLimit)
no_rows = refl

no_slots : new (progress 3999999 15999999) ≡ Err (bound SlotLimit)
no_slots = refl
