use Rattle.std.proofs.Common.{◌∙◌, inl, inr, arith}
use Rattle.mlir_tree.proofs.ListEnds.{texts_end}
use Rattle.mlir_tree.proofs.text.cmp_texts.Goals as goal
use Rattle.mlir_tree.proofs.text.cmp_texts.Goals.{then-loop-at-test+else-at-b, else-loop-at-test}

pub returns : goal.returns
returns c =
    elim c.loop-at-test.branch [
      | then-loop-at-test+else-at-b w ↦ c.cmp.ensures ∙ (texts_end c.args.a.now c.args.b.now c.loop-at.at (omega arith) (omega arith) (inr (omega arith)) ∙ c.loop-at.invariant.2)
      | else-loop-at-test w ↦ c.cmp.ensures ∙ (texts_end c.args.a.now c.args.b.now c.loop-at.at (omega arith) (omega arith) (inl (omega arith)) ∙ c.loop-at.invariant.2)
    ]
