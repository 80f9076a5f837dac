use Rattle.std.proofs.Common.{◌∙◌, inl, inr, arith}
use Rattle.mlir_tree.specs.Measure.{attr_item, entry_item}
use Rattle.mlir_tree.proofs.ListEnds.{attrs_end, entries_end}
use Rattle.mlir_tree.proofs.attr.+cmp_attr.Goals as goal
use Rattle.mlir_tree.proofs.attr.+cmp_attr.Goals.{cmp_attrs-then-loop-at-test+else-at-b, cmp_attrs-else-loop-at-test, cmp_dicts-then-loop-at-test+else-at-b, cmp_dicts-else-loop-at-test}

pub cmp_attrs-cmp-step-requires : goal.cmp_attrs-cmp-step-requires
cmp_attrs-cmp-step-requires t c =
    (omega (arith, c.decreases, attr_item c.args.a.now c.loop-at.at c.index-a-at.result (omega arith) c.index-a-at.is), tt)

pub cmp_dicts-cmp-requires-in-loop-at : goal.cmp_dicts-cmp-requires-in-loop-at
cmp_dicts-cmp-requires-in-loop-at t c =
    (omega (arith, c.decreases, entry_item c.args.a.now c.loop-at.at c.index-a-at.result (omega arith) c.index-a-at.is), tt)

pub cmp_attrs-returns : goal.cmp_attrs-returns
cmp_attrs-returns t c =
    elim c.loop-at-test.branch [
      | cmp_attrs-then-loop-at-test+else-at-b w ↦ c.cmp.ensures ∙ (attrs_end c.args.a.now c.args.b.now c.loop-at.at (omega arith) (omega arith) (inr (omega arith)) ∙ c.loop-at.invariant.2)
      | cmp_attrs-else-loop-at-test w ↦ c.cmp.ensures ∙ (attrs_end c.args.a.now c.args.b.now c.loop-at.at (omega arith) (omega arith) (inl (omega arith)) ∙ c.loop-at.invariant.2)
    ]

pub cmp_dicts-returns : goal.cmp_dicts-returns
cmp_dicts-returns t c =
    elim c.loop-at-test.branch [
      | cmp_dicts-then-loop-at-test+else-at-b w ↦ c.cmp-2.ensures ∙ (entries_end c.args.a.now c.args.b.now c.loop-at.at (omega arith) (omega arith) (inr (omega arith)) ∙ c.loop-at.invariant.2)
      | cmp_dicts-else-loop-at-test w ↦ c.cmp-2.ensures ∙ (entries_end c.args.a.now c.args.b.now c.loop-at.at (omega arith) (omega arith) (inl (omega arith)) ∙ c.loop-at.invariant.2)
    ]
