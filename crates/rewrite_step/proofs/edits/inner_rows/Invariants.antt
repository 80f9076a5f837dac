use Rattle.std.proofs.Common.{◌≡◌, ℕ}
use Rattle.rewrite_step.specs.Removing.{is_inner}
use Rattle.rewrite_step.proofs.Inside.{inside}
use Rattle.rewrite_step.proofs.edits.inner_rows.Given as goal

abbrev pub invariant-loop-row : goal.invariant-loop-row
invariant-loop-row l = (u : ℕ) → is_inner l.inner u ≡ inside l.rows l.row-index u l.owner
