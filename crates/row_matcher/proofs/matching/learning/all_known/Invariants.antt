use Rattle.std.proofs.Common.{◌≡◌, ◌++◌, drop, map, option_map}
use Rattle.row_matcher.specs.View.{thing_of}
use Rattle.row_matcher.specs.Learning.{known_of, all_known}
use Rattle.row_matcher.proofs.matching.learning.all_known.Given as goal

abbrev pub invariant-loop-o : goal.invariant-loop-o
invariant-loop-o l = option_map (λ ts. map thing_of l.found ++ ts) (all_known (known_of (drop l.o-index l.known))) ≡ all_known (known_of l.known)
