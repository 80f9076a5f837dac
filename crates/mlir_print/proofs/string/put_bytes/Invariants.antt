use Rattle.std.proofs.Common.{Bool, ◌≤◌, ◌-◌, drop, length}
use Rattle.std.specs.List.{flat_map}
use Rattle.rw_outside.specs.Puts.{SinkState}
use Rattle.mlir_print.specs.Prints.{Prints}
use Rattle.mlir_print.specs.Text.{byte_text}
use Rattle.mlir_print.proofs.string.put_bytes.Given as goal

-- whatever puts the rest from here on puts all from the start
abbrev pub invariant-loop-at : goal.invariant-loop-at
invariant-loop-at g l =
    (l.at ≤ length l.bytes)
    × ((is : Bool) (s : SinkState) → Prints l.ok is (g.S.Sink.state l.sink) s (flat_map byte_text (drop l.at l.bytes))
    → Prints l.fn.ok is (g.S.Sink.state l.fn.sink) s (flat_map byte_text l.bytes))

abbrev pub decreases-loop-at : goal.decreases-loop-at
decreases-loop-at g l = length l.bytes - l.at
