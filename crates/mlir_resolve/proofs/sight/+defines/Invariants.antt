use Rattle.std.proofs.Common.{◌≡◌, ◌+◌, drop}
use Rattle.mlir_parse.specs.SynTree.{operations}
use Rattle.mlir_parse.specs.SynView.{region_tree}
use Rattle.mlir_parse.specs.SynSize.{operation_size, operations_size, regions_size}
use Rattle.mlir_resolve.specs.Walk.{operations_define, regions_define}
use Rattle.mlir_resolve.proofs.sight.+defines.Given as goal

abbrev pub decreases-op_defines : goal.decreases-op_defines
decreases-op_defines l = operation_size l.op.now

abbrev pub decreases-regions_define : goal.decreases-regions_define
decreases-regions_define l = regions_size (region_tree l.regions.now)

abbrev pub decreases-region_defines : goal.decreases-region_defines
decreases-region_defines l = operations_size (operations l.region.now.ops) + 1

abbrev pub decreases-defines : goal.decreases-defines
decreases-defines l = operations_size (operations l.ops.now)

abbrev pub invariant-regions_define-loop-region : goal.invariant-regions_define-loop-region
invariant-regions_define-loop-region l = regions_define l.name (region_tree (drop l.region-index l.regions)) ≡ regions_define l.name (region_tree l.regions)

abbrev pub invariant-defines-loop-op : goal.invariant-defines-loop-op
invariant-defines-loop-op l = operations_define l.name (operations (drop l.op-index l.ops)) ≡ operations_define l.name (operations l.ops)
