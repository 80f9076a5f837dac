use Rattle.std.proofs.Common.{◌+◌, ap, sym, subst, arith}
use Rattle.order_labels.specs.Chain.{link_at, limit_of, IsStretch}
use Rattle.order_labels.proofs.Stretches.{one_after, rises_after}
use Rattle.order_labels.proofs.gaps.with_back.Goals as goal

pub loop-after-smaller : goal.loop-after-smaller
loop-after-smaller c =
    let l = link_at c.args.links.now in
    omega (
      arith,
      rises_after l c.args.count c.requires.order c.args.at.0 c.args.stretch.before.0 c.loop-after.len c.loop-after.after.0 c.loop-after.invariant c.args.end
          (omega (arith, c.loop-after-test.true, c.limit.ensures)) c.requires.end,
      ap (λ k. limit_of l k.next.0) c.look.ensures,
      c.loop-after-test.true,
      c.limit.ensures,
      c.requires.end,
    )

pub loop-after-preserved : goal.loop-after-preserved
loop-after-preserved c =
    let l = link_at c.args.links.now in
    subst (λ k. IsStretch l c.args.count c.args.at.0 c.args.stretch.before.0 (c.loop-after.len + 1) k.next.0) (sym c.look.ensures)
    (one_after l c.args.count c.requires.order c.args.at.0 c.args.stretch.before.0 c.loop-after.len c.loop-after.after.0 c.loop-after.invariant c.args.end
    (omega (arith, c.loop-after-test.true, c.limit.ensures)) c.requires.end)
