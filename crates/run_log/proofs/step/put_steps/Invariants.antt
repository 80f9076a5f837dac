use Rattle.std.proofs.Common.{Bool, ◌+◌, drop}
use Rattle.rw_outside.specs.Puts.{SinkState}
use Rattle.mlir_print.specs.Prints.{Prints}
use Rattle.run_model.specs.LogText.{step_lines}
use Rattle.run_log.proofs.step.put_steps.Given as goal

-- whatever puts the rest from here on puts all from the start
abbrev pub invariant-loop-i : goal.invariant-loop-i
invariant-loop-i g l =
    (is : Bool) (s : SinkState) → Prints l.ok is (g.S.Sink.state l.sink) s (step_lines (l.i + 1) (drop l.i l.steps))
    → Prints l.fn.ok is (g.S.Sink.state l.fn.sink) s (step_lines 1 l.steps)
