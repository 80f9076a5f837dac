use Rattle.std.proofs.Common.{◌≡◌, ◌+◌, ◌++◌, drop}
use Rattle.mlir_print.specs.Numbering.{arguments_of}
use Rattle.mlir_print.specs.Starts.{starts}
use Rattle.mlir_print.proofs.numbering.starts.Given as goal

abbrev pub invariant-loop-arguments : goal.invariant-loop-arguments
invariant-loop-arguments l =
    (l.next + arguments_of (drop l.arguments-index l.regions) ≡ l.fn.first + arguments_of l.regions)
    × (l.found.items ++ starts l.next (drop l.arguments-index l.regions) ≡ starts l.fn.first l.regions)
