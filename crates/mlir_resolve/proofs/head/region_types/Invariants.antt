use Rattle.std.proofs.Common.{◌≡◌, ◌++◌, drop, map}
use Rattle.mlir_parse.specs.SynView.{region_tree}
use Rattle.mlir_resolve.specs.Laid.{argument_types, arguments_of}
use Rattle.mlir_resolve.proofs.head.region_types.Given as goal

abbrev pub invariant-loop-region : goal.invariant-loop-region
invariant-loop-region l = l.types ++ map argument_types (arguments_of (region_tree (drop l.region-index l.regions))) ≡ map argument_types (arguments_of (region_tree l.regions))
