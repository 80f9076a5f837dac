use Rattle.std.proofs.Common.{nat_eq, ◌∙◌, inl, inr, arith}
use Rattle.pdll_syntax.proofs.Ends.{same_end}
use Rattle.pdll_syntax.proofs.expr.same_members.Goals as goal
use Rattle.pdll_syntax.proofs.expr.same_members.Goals.{then-loop-at-test+else-at-b, else-loop-at-test}

pub returns : goal.returns
returns c =
    elim c.loop-at-test.branch [
      | then-loop-at-test+else-at-b w ↦ same_end nat_eq c.args.a.now c.args.b.now c.loop-at.at (omega arith) (omega arith) (inr (omega arith)) ∙ c.loop-at.invariant.2
      | else-loop-at-test w ↦ same_end nat_eq c.args.a.now c.args.b.now c.loop-at.at (omega arith) (omega arith) (inl (omega arith)) ∙ c.loop-at.invariant.2
    ]
