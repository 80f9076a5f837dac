use Rattle.std.proofs.Common.{Bool, drop}
use Rattle.rw_outside.specs.Puts.{SinkState}
use Rattle.mlir_print.specs.Prints.{Prints}
use Rattle.mlir_print.specs.Text.{more_symbols_text}
use Rattle.mlir_print.proofs.attr.put_more_symbols.Given as goal

-- whatever puts the rest from here on puts all from the start
abbrev pub invariant-loop-name : goal.invariant-loop-name
invariant-loop-name g l =
    (is : Bool) (s : SinkState) → Prints l.ok is (g.S.Sink.state l.sink) s (more_symbols_text (drop l.name-index l.names))
    → Prints l.fn.ok is (g.S.Sink.state l.fn.sink) s (more_symbols_text l.names)
