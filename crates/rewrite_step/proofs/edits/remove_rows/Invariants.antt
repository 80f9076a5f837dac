use Rattle.std.proofs.Common.{◌≡◌, ◌≤◌, ◌++◌, take, drop, length}
use Rattle.std.specs.Prelude.{◌==◌, not, filter}
use Rattle.rewrite_step.proofs.edits.remove_rows.Given as goal

abbrev pub invariant-loop-at : goal.invariant-loop-at
invariant-loop-at l =
    (l.at ≤ length l.fn.rows) × (l.rows ≡ take l.at l.fn.rows ++ filter (λ r. not (r.id == l.owner)) (drop l.at l.fn.rows))

abbrev pub decreases-loop-at : goal.decreases-loop-at
decreases-loop-at l = l.at
