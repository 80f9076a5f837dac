use Rattle.order_labels.specs.Chain.{link_at}
use Rattle.order_labels.proofs.Writes.{differs}
use Rattle.order_labels.proofs.Spreading.{placed_same}
use Rattle.order_labels.proofs.Placing.{prev_there, at_there, puts, puts_after, none_label}
use Rattle.order_labels.proofs.order.place.Goals as goal

pub splice-requires-clause-at_there : goal.splice-requires-clause-at_there
splice-requires-clause-at_there c =
    let mid = c.label_before-label.new.links in
    let r = c.label_before-label.ensures.relabels in
    at_there mid c.args.count c.args.at.0 r.order (c.label_before-label.ensures.room.keys _ c.requires.head) (placed_same (link_at c.args.links.now) (link_at mid) c.args.count c.args.at.0 r c.requires.placed)

pub splice-requires-clause-prev_there : goal.splice-requires-clause-prev_there
splice-requires-clause-prev_there c =
    let mid = c.label_before-label.new.links in
    let r = c.label_before-label.ensures.relabels in
    prev_there mid c.args.count c.args.at.0 r.order (c.label_before-label.ensures.room.keys _ c.requires.head)
    (placed_same (link_at c.args.links.now) (link_at mid) c.args.count c.args.at.0 r c.requires.placed)

pub returns-clause-places : goal.returns-clause-places
returns-clause-places c =
    let mid = c.label_before-label.new.links in
    let r = c.label_before-label.ensures.relabels in
    puts_after (link_at c.args.links.now) (link_at mid) (link_at c.splice.new.links) c.args.count c.splice.result.0 c.args.at.0 c.args.id r
    (puts (link_at mid) (link_at c.splice.new.links) c.args.count c.splice.result.0 c.args.at.0 c.label_before-label.result c.args.id r.order
    (placed_same (link_at c.args.links.now) (link_at mid) c.args.count c.args.at.0 r c.requires.placed) c.splice.ensures.inserts c.label_before-label.ensures.low c.label_before-label.ensures.high
    (none_label mid c.splice.result.0 c.splice.ensures.fresh) (differs mid c.splice.result.0 0 c.splice.ensures.fresh (c.label_before-label.ensures.room.keys _ c.requires.head)))
