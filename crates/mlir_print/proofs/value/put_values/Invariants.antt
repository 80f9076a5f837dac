use Rattle.std.proofs.Common.{Bool, drop}
use Rattle.rw_outside.specs.Puts.{SinkState}
use Rattle.mlir_print.specs.Prints.{Prints}
use Rattle.mlir_print.specs.ModuleText.{listed, value_text}
use Rattle.mlir_print.proofs.value.put_values.Given as goal

-- whatever puts the rest from here on puts all from the start
abbrev pub invariant-loop-i : goal.invariant-loop-i
invariant-loop-i g l =
    (is : Bool) (s : SinkState) → Prints l.ok is (g.S.Sink.state l.sink) s (listed (value_text l.rows) l.i (drop l.i l.values))
    → Prints l.fn.ok is (g.S.Sink.state l.fn.sink) s (listed (value_text l.rows) 0 l.values)
