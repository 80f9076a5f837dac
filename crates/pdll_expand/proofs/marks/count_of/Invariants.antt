use Rattle.std.proofs.Common.{◌≡◌, ◌+◌, ◌≤◌, drop}
use Rattle.pdll_expand.specs.Marking.{marks_in}
use Rattle.pdll_expand.proofs.marks.count_of.Given as goal

abbrev pub invariant-loop-bit : goal.invariant-loop-bit
invariant-loop-bit l = record {
  all : l.count + marks_in (drop l.bit-index l.bits) ≡ marks_in l.bits;
  within : l.count ≤ l.bit-index;
}
