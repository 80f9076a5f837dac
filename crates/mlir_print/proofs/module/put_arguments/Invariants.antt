use Rattle.std.proofs.Common.{Bool, drop}
use Rattle.rw_outside.specs.Puts.{SinkState}
use Rattle.mlir_print.specs.Prints.{Prints}
use Rattle.mlir_print.specs.ModuleText.{arguments_text}
use Rattle.mlir_print.proofs.module.put_arguments.Given as goal

-- whatever puts the rest from here on puts all from the start
abbrev pub invariant-loop-i : goal.invariant-loop-i
invariant-loop-i g l =
    (is : Bool) (s : SinkState) → Prints l.ok is (g.S.Sink.state l.sink) s (arguments_text l.rows l.id l.region l.i (drop l.i l.arguments))
    → Prints l.fn.ok is (g.S.Sink.state l.fn.sink) s (arguments_text l.rows l.id l.region 0 l.arguments)
