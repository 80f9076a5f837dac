use Rattle.std.proofs.Common.{◌≡◌, ◌++◌, map, take, drop}
use Rattle.mlir_tree.specs.Edits.{substituted_row}
use Rattle.rewrite_step.proofs.edits.substitute_rows.Given as goal

abbrev pub invariant-loop-at : goal.invariant-loop-at
invariant-loop-at l = l.rows ≡ map (substituted_row l.from l.to) (take l.at l.fn.rows) ++ drop l.at l.fn.rows
