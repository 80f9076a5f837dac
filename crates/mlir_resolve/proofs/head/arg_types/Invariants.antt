use Rattle.std.proofs.Common.{◌≡◌, take}
use Rattle.mlir_resolve.specs.Laid.{argument_types}
use Rattle.mlir_resolve.proofs.head.arg_types.Given as goal

abbrev pub invariant-loop-arg : goal.invariant-loop-arg
invariant-loop-arg l = l.types ≡ argument_types (take l.arg-index l.args)
