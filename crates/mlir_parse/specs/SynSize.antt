-- How many operations and regions an operation has, itself and those inside counted. A part has fewer than what holds it.
use Rattle.std.proofs.Common.{ℕ, ◌+◌, ◌≤◌, List, [], ◌∷◌, arith}
use denote.Param.Weighed.{most}
use Rattle.mlir_parse.specs.SynTree.{Operation, operation, Regions, no_regions, region_then, Operations, no_operations, operation_then, operations}

abbrev mutual
  pub operation_size : Operation → ℕ
  operation_size (operation h rs) = regions_size rs + 1

  pub regions_size : Regions → ℕ
  regions_size no_regions = 1
  regions_size (region_then args os rs) = operations_size os + regions_size rs + 1

  pub operations_size : Operations → ℕ
  operations_size no_operations = 1
  operations_size (operation_then o os) = operation_size o + operations_size os + 1

-- the largest item has fewer than its list
pub most_operations : (os : List Operation) → most (λ o. operation_size o + 1) os ≤ operations_size (operations os)
most_operations [] = omega arith
most_operations (o ∷ os) = omega (arith, most_operations os)
