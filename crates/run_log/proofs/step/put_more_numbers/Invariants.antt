use Rattle.std.proofs.Common.{ℕ, Bool, ◌++◌, codes, decimal, drop}
use Rattle.std.specs.List.{flat_map}
use Rattle.rw_outside.specs.Puts.{SinkState}
use Rattle.mlir_print.specs.Prints.{Prints}
use Rattle.run_log.proofs.step.put_more_numbers.Given as goal

-- whatever puts the rest from here on puts all from the start
abbrev pub invariant-loop-number : goal.invariant-loop-number
invariant-loop-number g l =
    (is : Bool) (s : SinkState) → Prints l.ok is (g.S.Sink.state l.sink) s (flat_map (λ (n : ℕ). codes "," ++ decimal n) (drop l.number-index l.numbers))
    → Prints l.fn.ok is (g.S.Sink.state l.fn.sink) s (flat_map (λ (n : ℕ). codes "," ++ decimal n) l.numbers)
