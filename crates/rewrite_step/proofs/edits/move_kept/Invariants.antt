use Rattle.std.proofs.Common.{◌≡◌, ◌++◌, length, reverse}
use Rattle.std.specs.Prelude.{filter}
use Rattle.rewrite_step.specs.Removing.{stays}
use Rattle.rewrite_step.proofs.edits.move_kept.Given as goal

abbrev pub invariant-loop-row : goal.invariant-loop-row
invariant-loop-row l =
    l.kept ++ reverse (filter (λ r. stays l.inner l.owner r.id) l.rows) ≡ l.initial.kept ++ reverse (filter (λ r. stays l.inner l.owner r.id) l.initial.rows)

abbrev pub decreases-loop-row : goal.decreases-loop-row
decreases-loop-row l = length l.rows
