use Rattle.std.proofs.Common.{sym, subst, ◌∙◌}
use Rattle.std.specs.Prelude.{option_copied}
use Rattle.pdll_expand.specs.declared.expr.Expr.TheVariants.{The}
use Rattle.pdll_expand.specs.View.{expr_of}
use Rattle.row_matcher.specs.Learning.{known_of}
use Rattle.row_matcher.specs.Segments.{IsNextSegment}
use Rattle.row_matcher.proofs.Segments.{no_segment}
use Rattle.row_matcher.proofs.matching.learning.tell_segments.Goals as goal

pub returns-in-None : goal.returns-in-None
returns-in-None c =
    sym (no_segment expr_of c.args.exprs.now c.loop-e.e-index (The 0) c.loop-e-test.true (option_copied c.loop-e.left) c.loop-e.rest.now c.args.kinds.now (known_of c.loop-e.known)
    (subst (λ o. IsNextSegment (option_copied c.loop-e.left) c.loop-e.rest.now o) c.in-None.is c.next_segment.ensures))
    ∙ c.loop-e.invariant.told
