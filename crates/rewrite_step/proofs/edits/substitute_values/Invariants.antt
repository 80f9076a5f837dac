use Rattle.std.proofs.Common.{◌≡◌, ◌++◌, map, take, drop}
use Rattle.mlir_tree.specs.Edits.{substitute}
use Rattle.rewrite_step.proofs.edits.substitute_values.Given as goal

abbrev pub invariant-loop-at : goal.invariant-loop-at
invariant-loop-at l = l.values ≡ map (substitute l.from l.to) (take l.at l.fn.values) ++ drop l.at l.fn.values
