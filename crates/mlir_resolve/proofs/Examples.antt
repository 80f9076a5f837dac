-- What small trees are resolved to.
use Rattle.std.proofs.Common.{◌≡◌, ℕ, List, [], ◌∷◌, Some, Ok, Err, refl, codes}
use Rattle.mlir_tree.specs.declared.sign.Sign.TheVariants.{Signless}
use Rattle.mlir_tree.specs.declared.value.Val.TheVariants.{Res}
use Rattle.mlir_tree.specs.Tree.{Ty, int}
use Rattle.mlir_attributes.specs.declared.fault.ModKind.TheVariants as faults
use Rattle.mlir_parse.specs.SynTree.{Operation, operation, Regions, no_regions, region_then, operations}
use Rattle.mlir_resolve.specs.Laid.{region, laid_operation, implied_row}
use Rattle.mlir_resolve.specs.Sight.{meaning_at, definitions, is_defined, is_named_before}
use Rattle.mlir_resolve.specs.Resolving.{resolved, use_fault, use_type, head_fault, results_fault, operation_fault}
use Rattle.mlir_tree.specs.Module.{enclosing}

abbrev i32 : Ty
i32 = int Signless 32

-- an operation at these places, with one operand of this name
abbrev user : ℕ → List ℕ → Regions → Operation
user at name rs = operation (record {
  at = at;
  name = codes "t.b";
  results = [];
  operands = record { at = at; name = name; index = 0 } ∷ [];
  props = [];
  attrs = [];
  types_at = at;
  operand_types = i32 ∷ [];
  result_types = [];
}) rs

-- an operation with one result of this name
abbrev maker : ℕ → List ℕ → Regions → Operation
maker at name rs = operation (record {
  at = at;
  name = codes "t.a";
  results = record { at = at; name = name; count = 1 } ∷ [];
  operands = [];
  props = [];
  attrs = [];
  types_at = at;
  operand_types = [];
  result_types = i32 ∷ [];
}) rs

abbrev x : List ℕ
x = codes "x"

-- ---- names that mean nothing

pub undefined : resolved (record { ops = user 5 x no_regions ∷ [] }) ≡ Err (record { kind = faults.Undefined; at = 5 })
unfolding resolved operation_fault head_fault use_fault use_type meaning_at is_defined definitions enclosing laid_operation
undefined = refl

pub later : resolved (record { ops = user 5 x no_regions ∷ (maker 9 x no_regions ∷ []) }) ≡ Err (record { kind = faults.NotVisible; at = 5 })
unfolding resolved operation_fault head_fault use_fault use_type meaning_at is_defined definitions enclosing laid_operation
later = refl

pub inside_itself : resolved (record { ops = maker 5 x (region_then [] (operations (user 9 x no_regions ∷ [])) no_regions) ∷ [] }) ≡ Err (record { kind = faults.NotVisible; at = 9 })
unfolding resolved operation_fault head_fault use_fault use_type meaning_at is_defined definitions enclosing laid_operation
inside_itself = refl

-- ---- rows

pub good : resolved (record { ops = maker 5 x no_regions ∷ (user 9 x no_regions ∷ []) })
    ≡ Ok (record {
      rows = implied_row
          ∷ record { id = 1; home = Some (region 0 0); name = codes "t.a"; operands = []; results = i32 ∷ []; props = []; attrs = []; regions = [] }
          ∷ record { id = 2; home = Some (region 0 0); name = codes "t.b"; operands = Res 1 0 ∷ []; results = []; props = []; attrs = []; regions = [] }
          ∷ [];
      next = 3;
    })
unfolding resolved operation_fault head_fault results_fault is_named_before use_fault use_type meaning_at is_defined definitions enclosing laid_operation
good = refl

-- a result of a sibling region
pub sibling : resolved (record {
  ops = maker 5 (codes "z") (region_then [] (operations (maker 7 x no_regions ∷ [])) (region_then [] (operations (user 9 x no_regions ∷ [])) no_regions)) ∷ [];
}) ≡ Err (record { kind = faults.NotVisible; at = 9 })
unfolding resolved operation_fault head_fault results_fault is_named_before use_fault use_type meaning_at is_defined definitions enclosing laid_operation
sibling = refl

-- an inner name hides an outer one
pub hides : resolved (record {
  ops = maker 5 x no_regions ∷ (maker 7 (codes "z") (region_then [] (operations (maker 9 x no_regions ∷ (user 11 x no_regions ∷ []))) no_regions) ∷ []);
}) ≡ Ok (record {
  rows = implied_row
      ∷ record { id = 1; home = Some (region 0 0); name = codes "t.a"; operands = []; results = i32 ∷ []; props = []; attrs = []; regions = [] }
      ∷ record { id = 2; home = Some (region 0 0); name = codes "t.a"; operands = []; results = i32 ∷ []; props = []; attrs = []; regions = [] ∷ [] }
      ∷ record { id = 3; home = Some (region 2 0); name = codes "t.a"; operands = []; results = i32 ∷ []; props = []; attrs = []; regions = [] }
      ∷ record { id = 4; home = Some (region 2 0); name = codes "t.b"; operands = Res 3 0 ∷ []; results = []; props = []; attrs = []; regions = [] }
      ∷ [];
  next = 5;
})
unfolding resolved operation_fault head_fault results_fault is_named_before use_fault use_type meaning_at is_defined definitions enclosing laid_operation
hides = refl
