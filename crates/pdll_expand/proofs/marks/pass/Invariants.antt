use Rattle.std.proofs.Common.{◌≡◌, ◌≤◌, drop, map, length}
use Rattle.pdll_expand.specs.View.{demand_of}
use Rattle.pdll_expand.specs.Marking.{passed}
use Rattle.pdll_expand.proofs.marks.pass.Given as goal

abbrev pub invariant-loop-at : goal.invariant-loop-at
invariant-loop-at l = record {
  marks : l.marks ≡ passed (map demand_of (drop l.at l.demands)) l.fn.marks;
  within : l.at ≤ length l.demands;
}

abbrev pub decreases-loop-at : goal.decreases-loop-at
decreases-loop-at l = l.at
