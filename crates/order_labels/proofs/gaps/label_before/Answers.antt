use Rattle.order_labels.specs.Chain.{link_at}
use Rattle.order_labels.proofs.Spreading.{placed_same}
use Rattle.order_labels.proofs.gaps.label_before.Goals as goal

pub label_within-requires-clause-placed : goal.label_within-requires-clause-placed
label_within-requires-clause-placed c =
    placed_same (link_at c.args.links.now) (link_at c.make_gap.new.links) c.args.count c.args.at.0 c.make_gap.ensures.relabels c.requires.placed
