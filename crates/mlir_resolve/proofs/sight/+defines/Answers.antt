use Rattle.std.proofs.Common.{arith}
use Rattle.mlir_resolve.proofs.Trees.{operation_item, region_item}
use Rattle.mlir_resolve.proofs.sight.+defines.Goals as goal

pub defines-op_defines-requires : goal.defines-op_defines-requires
defines-op_defines-requires t c =
    (omega (arith, c.decreases, operation_item c.args.ops.now c.loop-op.op-index c.op-item.result (omega arith) c.op-item.is), tt)

pub regions_define-region_defines-requires : goal.regions_define-region_defines-requires
regions_define-region_defines-requires t c =
    (omega (arith, c.decreases, region_item c.args.regions.now c.loop-region.region-index c.region-item.result (omega arith) c.region-item.is), tt)
