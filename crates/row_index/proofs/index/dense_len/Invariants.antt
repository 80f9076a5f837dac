use Rattle.std.proofs.Common.{◌<◌, ◌≤◌, take}
use Rattle.std.specs.Prelude.{All, length}
use Rattle.row_index.proofs.index.dense_len.Given as goal

-- the numbers so far are below the length
abbrev pub invariant-loop-i : goal.invariant-loop-i
invariant-loop-i l = All (λ r. r.id < l.len) (take l.i l.rows)
