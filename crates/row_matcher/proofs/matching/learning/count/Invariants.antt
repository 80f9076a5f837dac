use Rattle.std.proofs.Common.{◌≡◌, ◌+◌, ◌≤◌, drop}
use Rattle.row_matcher.specs.Learning.{known_of, known_in}
use Rattle.row_matcher.proofs.matching.learning.count.Given as goal

abbrev pub invariant-loop-o : goal.invariant-loop-o
invariant-loop-o l = record {
  all : l.count + known_in (known_of (drop l.o-index l.known)) ≡ known_in (known_of l.known);
  within : l.count ≤ l.o-index;
}
