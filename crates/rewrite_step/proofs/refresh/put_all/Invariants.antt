use Rattle.std.proofs.Common.{◌≡◌, ◌≤◌, length, take}
use Rattle.rewrite_step.proofs.refresh.put_all.Given as goal

abbrev pub invariant-loop-at : goal.invariant-loop-at
invariant-loop-at l = record {
  front : take l.at l.copy.rows ≡ take l.at l.rows;
  long : l.at ≤ length l.copy.rows;
}
