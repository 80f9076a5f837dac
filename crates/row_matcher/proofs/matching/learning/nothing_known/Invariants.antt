use Rattle.std.proofs.Common.{◌≡◌, None, replicate}
use Rattle.row_matcher.specs.Learning.{known_of}
use Rattle.row_matcher.proofs.matching.learning.nothing_known.Given as goal

abbrev pub invariant-loop : goal.invariant-loop
invariant-loop l = known_of l.known ≡ replicate l.counter None
