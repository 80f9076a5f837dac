use Rattle.std.proofs.Common.{◌+◌, ap, sym, subst, arith}
use Rattle.order_labels.specs.Chain.{link_at, label_of, IsStretch}
use Rattle.order_labels.proofs.Stretches.{one_before, falls_before}
use Rattle.order_labels.proofs.gaps.with_front.Goals as goal

pub loop-before-smaller : goal.loop-before-smaller
loop-before-smaller c =
    let l = link_at c.args.links.now in
    omega (
      arith,
      falls_before l c.args.count c.requires.order c.args.at.0 c.loop-before.before.0 c.loop-before.len c.args.stretch.after.0 c.loop-before.invariant c.args.base
          (omega (arith, c.loop-before-test.true, ap (λ k. k.label) c.look.ensures)),
      ap (λ k. label_of l k.prev.0) c.look-in-loop-before.ensures,
    )

pub loop-before-preserved : goal.loop-before-preserved
loop-before-preserved c =
    let l = link_at c.args.links.now in
    subst (λ k. IsStretch l c.args.count c.args.at.0 k.prev.0 (c.loop-before.len + 1) c.args.stretch.after.0) (sym c.look-in-loop-before.ensures)
    (one_before l c.args.count c.requires.order c.args.at.0 c.loop-before.before.0 c.loop-before.len c.args.stretch.after.0 c.loop-before.invariant c.args.base
    (omega (arith, c.loop-before-test.true, ap (λ k. k.label) c.look.ensures)))
