use Rattle.std.proofs.Common.{◌≡◌, ◌≤◌, length, take}
use Rattle.rewrite_step.proofs.refresh.remove_others.Given as goal

abbrev pub invariant-loop-copy : goal.invariant-loop-copy
invariant-loop-copy l = record {
  front : take l.at l.copy ≡ take l.at l.initial.copy;
  long : l.at ≤ length l.copy;
}

abbrev pub decreases-loop-copy : goal.decreases-loop-copy
decreases-loop-copy l = length l.copy
