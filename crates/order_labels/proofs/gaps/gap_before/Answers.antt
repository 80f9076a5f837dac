use Rattle.std.proofs.Common.{ap, arith}
use Rattle.order_labels.specs.Chain.{link_at, label_of}
use Rattle.order_labels.proofs.Positions.{gap_there}
use Rattle.order_labels.proofs.gaps.gap_before.Goals as goal

pub overflow_sub-result : goal.overflow_sub-result
overflow_sub-result c =
    let l = link_at c.args.links.now in
    omega (arith, gap_there l c.args.count c.requires.order c.args.at.0 c.requires.placed, c.limit.ensures, ap (λ k. k.label) c.look-2.ensures, ap (λ k. label_of l k.prev.0) c.look.ensures)

pub returns : goal.returns
returns c =
    let l = link_at c.args.links.now in
    omega (arith, gap_there l c.args.count c.requires.order c.args.at.0 c.requires.placed, c.limit.ensures, ap (λ k. k.label) c.look-2.ensures, ap (λ k. label_of l k.prev.0) c.look.ensures)
