use Rattle.std.proofs.Common.{◌≡◌, ◌≤◌, length, drop}
use Rattle.rewrite_model.specs.Making.{all_slots}
use Rattle.rewrite_step.proofs.step.all_slots.Given as goal

abbrev pub invariant-loop-at : goal.invariant-loop-at
invariant-loop-at l = record {
  counted : l.slots ≡ all_slots (drop l.at l.rows);
  within : l.at ≤ length l.rows;
}

abbrev pub decreases-loop-at : goal.decreases-loop-at
decreases-loop-at l = l.at
