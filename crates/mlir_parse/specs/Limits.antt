-- What every tree of a module file keeps: its limits, and the order of its dictionaries.
use Rattle.std.specs.Prelude.{ℕ, suc, ◌+◌, ◌≤◌, List, length, map, ⊤}
use Rattle.mlir_tree.specs.Range.{AreRising}
use Rattle.mlir_parse.specs.declared.syn.SynEntry.{SynEntry}
use Rattle.mlir_parse.specs.declared.syn.Syn.{Syn}
use Rattle.mlir_parse.specs.SynTree.{Head, Operation, operation, Regions, no_regions, region_then, Operations, no_operations, operation_then, operations}

-- How many operations there are, with those inside them.
abbrev mutual
  pub operation_count : Operation → ℕ
  operation_count (operation h rs) = suc (region_operation_count rs)

  pub region_operation_count : Regions → ℕ
  region_operation_count no_regions = 0
  region_operation_count (region_then args os rs) = operations_count os + region_operation_count rs

  pub operations_count : Operations → ℕ
  operations_count no_operations = 0
  operations_count (operation_then o os) = operation_count o + operations_count os

-- How many operands and results they have together; results are counted by their types.
abbrev mutual
  pub operation_slots : Operation → ℕ
  operation_slots (operation h rs) = length h.operands + length h.result_types + region_slots rs

  pub region_slots : Regions → ℕ
  region_slots no_regions = 0
  region_slots (region_then args os rs) = operations_slots os + region_slots rs

  pub operations_slots : Operations → ℕ
  operations_slots no_operations = 0
  operations_slots (operation_then o os) = operation_slots o + operations_slots os

abbrev pub region_count : Regions → ℕ
region_count no_regions = 0
region_count (region_then args os rs) = suc (region_count rs)

abbrev pub syn_names : List SynEntry → List (List ℕ)
syn_names es = map (λ e. e.name) es

-- An operation has at most 65,535 operands, results and regions, and its dictionaries are in the order of their names,
-- none of which stands twice.
pub record IsHeadKept (h : Head) (rs : Regions) : Type 0 where
  pub operands : length h.operands ≤ 65535
  pub results : length h.result_types ≤ 65535
  pub regions : region_count rs ≤ 65535
  pub props : AreRising (syn_names h.props)
  pub attrs : AreRising (syn_names h.attrs)

-- So it is at each operation, and each region has at most 65,535 arguments.
abbrev mutual
  pub IsOperationKept : Operation → Type 0
  IsOperationKept (operation h rs) = IsHeadKept h rs × AreRegionsKept rs

  pub AreRegionsKept : Regions → Type 0
  AreRegionsKept no_regions = ⊤
  AreRegionsKept (region_then args os rs) = (length args ≤ 65535) × AreOperationsKept os × AreRegionsKept rs

  pub AreOperationsKept : Operations → Type 0
  AreOperationsKept no_operations = ⊤
  AreOperationsKept (operation_then o os) = IsOperationKept o × AreOperationsKept os

-- At most 1,000,000 operations with at most 16,000,000 operands and results.
pub record KeepsLimits (file : Syn) : Type 0 where
  pub few : operations_count (operations file.ops) ≤ 1000000
  pub slots : operations_slots (operations file.ops) ≤ 16000000
  pub each : AreOperationsKept (operations file.ops)
