use Rattle.std.proofs.Common.{◌≡◌, ◌≤◌, ◌-◌, max}
use Rattle.std.specs.List.{range_with_len}
use Rattle.rewrite_step.proofs.step.made_numbers.Given as goal

abbrev pub invariant-loop-id : goal.invariant-loop-id
invariant-loop-id l = record {
  given : l.found ≡ range_with_len l.before.next (l.id - l.before.next);
  within : l.id ≤ max l.before.next l.after.next;
}
