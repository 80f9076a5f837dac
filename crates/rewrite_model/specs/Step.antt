-- One step: the actions of a pattern under the assignment of its match, and the test of the module that they leave.
use Rattle.std.specs.Prelude.{ℕ, ◌-◌, Bool, not, ◌&&◌, ◌||◌, nat_le, List, [], length, filter, Option, Some, None, Ok, Err}
use Rattle.std.specs.List.{range_with_len}
use Rattle.mlir_tree.specs.declared.rows.Rows.{Rows}
use Rattle.mlir_tree.specs.declared.bad_use.BadUse.{BadUse as Use}
use Rattle.mlir_tree.specs.Module.{has_row}
use Rattle.row_index.specs.BadUses.{bad_use}
use Rattle.rewrite_model.specs.declared.run.Break.TheVariants.{BadUse}
use Rattle.rewrite_model.specs.Pattern.{Pattern}
use Rattle.rewrite_model.specs.Things.{Thing}
use Rattle.rewrite_model.specs.Making.{breaks, Start, Progress, Outcome, ◌>>=◌, all_slots, act_all}

-- how far a step is before its first action
abbrev pub begun : Rows → Progress
begun m = record { now = m; made = []; rows = length m.rows; slots = all_slots m.rows }

abbrev pub start_at : Rows → List Thing → ℕ → Start
start_at m a root = record { rows = m.rows; given = a; root = root }

-- all actions, whatever they leave
unfoldable pub rewritten : Pattern → List Thing → ℕ → Rows → Outcome Progress
rewritten p a root m = act_all (start_at m a root) (begun m) p.actions

-- The module is taken where each operand exists and is visible.
abbrev pub accepted : Rows → Option Use → Outcome Rows
accepted m None = Ok m
accepted m (Some u) = Err (breaks (BadUse u.row u.place))

-- The module after the step, or what ended it. Then the module stays as it was.
unfoldable pub step : Pattern → List Thing → ℕ → Rows → Outcome Rows
step p a root m = rewritten p a root m >>= (λ q. accepted q.now (bad_use q.now.rows))

-- ---- what a step made and removed, of the modules before and after

-- the numbers that the step gave
abbrev pub made_numbers : Rows → Rows → List ℕ
made_numbers m n = range_with_len m.next (n.next - m.next)

-- the numbers of rows that stood there or were made, and are live no more
abbrev pub was_removed : Rows → Rows → ℕ → Bool
was_removed m n id = (has_row m.rows id || nat_le m.next id) && not (has_row n.rows id)

abbrev pub removed_numbers : Rows → Rows → List ℕ
removed_numbers m n = filter (was_removed m n) (range_with_len 0 n.next)
