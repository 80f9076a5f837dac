use Rattle.std.proofs.Common.{◌≡◌, drop, map}
use Rattle.pdll_expand.specs.View.{named_expr_of}
use Rattle.row_matcher.specs.Learning.{known_of, tell_entries}
use Rattle.row_matcher.proofs.matching.learning.tell_entries.Given as goal

abbrev pub invariant-loop-e : goal.invariant-loop-e
invariant-loop-e l = tell_entries l.r (map named_expr_of (drop l.e-index l.entries)) (known_of l.known) ≡ tell_entries l.r (map named_expr_of l.entries) (known_of l.fn.known)
