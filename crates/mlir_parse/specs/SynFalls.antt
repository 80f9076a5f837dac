-- Each operation inside an operation has fewer operations.
use Rattle.std.specs.Prelude.{◌≤◌, ◌+◌, max, List, [], ◌∷◌}
use Rattle.std.proofs.Common.{arith}
use denote.Param.Weighed.{most}
use Rattle.mlir_parse.specs.declared.syn.SynRegion.{SynRegion}
use Rattle.mlir_parse.specs.declared.syn.SynOp.TheDeep.{deep-SynRegion}
use Rattle.mlir_parse.specs.SynSize.{regions_size, most_operations}
use Rattle.mlir_parse.specs.SynView.{region_tree}

pub operation_falls : (rs : List SynRegion) → max (most deep-SynRegion rs) 0 ≤ regions_size (region_tree rs) + 1
operation_falls [] = omega arith
operation_falls (r ∷ rs) = omega (arith, most_operations r.ops, operation_falls rs)
