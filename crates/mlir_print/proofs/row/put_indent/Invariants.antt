use Rattle.std.proofs.Common.{Bool}
use Rattle.rw_outside.specs.Puts.{SinkState}
use Rattle.mlir_print.specs.Prints.{Prints}
use Rattle.mlir_print.specs.ModuleText.{indent}
use Rattle.mlir_print.proofs.row.put_indent.Given as goal

-- whatever puts the rest from here on puts all from the start
abbrev pub invariant-loop-left : goal.invariant-loop-left
invariant-loop-left g l = (is : Bool) (s : SinkState) → Prints l.ok is (g.S.Sink.state l.sink) s (indent l.left) → Prints l.fn.ok is (g.S.Sink.state l.fn.sink) s (indent l.fn.depth)

abbrev pub decreases-loop-left : goal.decreases-loop-left
decreases-loop-left g l = l.left
