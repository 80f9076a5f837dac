use Rattle.std.proofs.Common.{◌≡◌, drop}
use Rattle.row_index.specs.BadUses.{first_bad_use, bad_use}
use Rattle.row_index.proofs.visibility.first_bad_use.Given as goal

abbrev pub invariant-loop-at : goal.invariant-loop-at
invariant-loop-at l = first_bad_use l.walk.rows.now (drop l.at l.walk.rows.now) ≡ bad_use l.walk.rows.now
