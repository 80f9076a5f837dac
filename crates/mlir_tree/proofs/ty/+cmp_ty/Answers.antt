use Rattle.std.proofs.Common.{◌∙◌, inl, inr, arith}
use Rattle.mlir_tree.specs.Measure.{ty_item}
use Rattle.mlir_tree.proofs.ListEnds.{tys_end}
use Rattle.mlir_tree.proofs.ty.+cmp_ty.Goals as goal
use Rattle.mlir_tree.proofs.ty.+cmp_ty.Goals.{cmp_tys-then-loop-at-test+else-at-b, cmp_tys-else-loop-at-test}

pub cmp_tys-cmp-step-requires : goal.cmp_tys-cmp-step-requires
cmp_tys-cmp-step-requires t c =
    (omega (arith, c.decreases, ty_item c.args.a.now c.loop-at.at c.index-a-at.result (omega arith) c.index-a-at.is), tt)

pub cmp_tys-returns : goal.cmp_tys-returns
cmp_tys-returns t c =
    elim c.loop-at-test.branch [
      | cmp_tys-then-loop-at-test+else-at-b w ↦ c.cmp.ensures ∙ (tys_end c.args.a.now c.args.b.now c.loop-at.at (omega arith) (omega arith) (inr (omega arith)) ∙ c.loop-at.invariant.2)
      | cmp_tys-else-loop-at-test w ↦ c.cmp.ensures ∙ (tys_end c.args.a.now c.args.b.now c.loop-at.at (omega arith) (omega arith) (inl (omega arith)) ∙ c.loop-at.invariant.2)
    ]
