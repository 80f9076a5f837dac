use Rattle.std.proofs.Common.{◌≡◌, ◌+◌, length, drop}
use Rattle.mlir_parse.specs.SynTree.{operations}
use Rattle.mlir_parse.specs.SynView.{region_tree}
use Rattle.mlir_parse.specs.SynSize.{operation_size, operations_size, regions_size}
use Rattle.mlir_parse.specs.Limits.{operations_count, region_operation_count, AreOperationsKept, AreRegionsKept}
use Rattle.mlir_resolve.specs.Walk.{operations_walk, regions_walk}
use Rattle.mlir_resolve.proofs.walk.+walk.Given as goal

abbrev pub decreases-walk_op : goal.decreases-walk_op
decreases-walk_op l = operation_size l.op.now + operation_size l.op.now

abbrev pub decreases-walk_inner : goal.decreases-walk_inner
decreases-walk_inner l = regions_size (region_tree l.regions.now) + regions_size (region_tree l.regions.now) + 1

abbrev pub decreases-walk_regions : goal.decreases-walk_regions
decreases-walk_regions l = regions_size (region_tree l.regions.now) + regions_size (region_tree l.regions.now)

abbrev pub decreases-walk_region : goal.decreases-walk_region
decreases-walk_region l = operations_size (operations l.region.now.ops) + operations_size (operations l.region.now.ops) + 1

abbrev pub decreases-walk_ops : goal.decreases-walk_ops
decreases-walk_ops l = operations_size (operations l.ops.now) + operations_size (operations l.ops.now)

abbrev pub invariant-walk_regions-loop-g : goal.invariant-walk_regions-loop-g
invariant-walk_regions-loop-g l =
    (regions_walk l.file l.fn.outer l.d 0 (region_tree l.regions) l.fn.rows ≡ regions_walk l.file l.fn.outer l.d l.g (region_tree (drop l.g l.regions)) l.rows)
    × (l.outer ≡ l.fn.outer)
    × (length l.rows + region_operation_count (region_tree (drop l.g l.regions)) ≡ length l.fn.rows + region_operation_count (region_tree l.regions))
    × AreRegionsKept (region_tree (drop l.g l.regions))

abbrev pub invariant-walk_ops-loop-op : goal.invariant-walk_ops-loop-op
invariant-walk_ops-loop-op l =
    (operations_walk l.file l.fn.outer l.home (operations l.ops) (l.fn.scope, l.fn.rows)
    ≡ operations_walk l.file l.fn.outer l.home (operations (drop l.op-index l.ops)) (l.scope, l.rows))
    × (l.outer ≡ l.fn.outer)
    × (length l.rows + operations_count (operations (drop l.op-index l.ops)) ≡ length l.fn.rows + operations_count (operations l.ops))
    × AreOperationsKept (operations (drop l.op-index l.ops))
