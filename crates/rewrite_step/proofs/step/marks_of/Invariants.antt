use Rattle.std.proofs.Common.{◌≤◌, drop, length}
use Rattle.rewrite_step.specs.Marking.{AreMarked}
use Rattle.rewrite_step.proofs.step.marks_of.Given as goal

abbrev pub invariant-loop-at : goal.invariant-loop-at
invariant-loop-at l = record {
  marks : AreMarked (drop l.at l.rows) l.count l.marks;
  within : l.at ≤ length l.rows;
}

abbrev pub decreases-loop-at : goal.decreases-loop-at
decreases-loop-at l = l.at
