use Rattle.std.proofs.Common.{◌≡◌, drop, map}
use Rattle.rewrite_model.specs.Things.{a_value, some_values}
use Rattle.pdll_expand.specs.View.{expr_of}
use Rattle.row_matcher.specs.Learning.{known_of, tell_list}
use Rattle.row_matcher.proofs.matching.learning.tell_values.Given as goal

abbrev pub invariant-loop-i : goal.invariant-loop-i
invariant-loop-i l =
    tell_list a_value some_values l.kinds (map expr_of (drop l.i l.exprs)) l.rest (known_of l.known) ≡ tell_list a_value some_values l.kinds (map expr_of l.exprs) l.all (known_of l.fn.known)
