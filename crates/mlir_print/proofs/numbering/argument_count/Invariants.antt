use Rattle.std.proofs.Common.{◌≡◌, ◌+◌, ◌*◌, ◌^◌, ◌≤◌, drop}
use Rattle.mlir_print.specs.Numbering.{arguments_of}
use Rattle.mlir_print.proofs.numbering.argument_count.Given as goal

abbrev pub invariant-loop-arguments : goal.invariant-loop-arguments
invariant-loop-arguments l = (l.count + arguments_of (drop l.arguments-index l.regions) ≡ arguments_of l.regions) × (l.count ≤ l.arguments-index * 2 ^ 16)
