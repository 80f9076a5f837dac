use Rattle.std.proofs.Common.{sym}
use Rattle.order_labels.specs.Chain.{link_at}
use Rattle.order_labels.proofs.Writes.{labelled_there}
use Rattle.order_labels.proofs.Placing.{slot_label, slot_not_head, key_there, prev_either, next_either, not_prev, not_next, takes}
use Rattle.order_labels.proofs.order.take.Goals as goal

pub skip-requires-clause-there : goal.skip-requires-clause-there
skip-requires-clause-there c = labelled_there c.args.links.now c.args.at.0 (slot_label (link_at c.args.links.now) _ c.requires.order c.args.at.0 c.requires.at_in)

pub skip-requires-clause-prev_there : goal.skip-requires-clause-prev_there
skip-requires-clause-prev_there c = key_there c.args.links.now _ c.requires.head (prev_either (link_at c.args.links.now) c.args.count c.args.at.0 c.requires.order c.requires.at_in)

pub skip-requires-clause-next_there : goal.skip-requires-clause-next_there
skip-requires-clause-next_there c = key_there c.args.links.now _ c.requires.head (next_either (link_at c.args.links.now) c.args.count c.args.at.0 c.requires.order c.requires.at_in)

pub skip-requires-clause-not_prev : goal.skip-requires-clause-not_prev
skip-requires-clause-not_prev c = not_prev (link_at c.args.links.now) c.args.count c.args.at.0 c.requires.order c.requires.at_in

pub skip-requires-clause-not_next : goal.skip-requires-clause-not_next
skip-requires-clause-not_next c = not_next (link_at c.args.links.now) c.args.count c.args.at.0 c.requires.order c.requires.at_in

pub returns-clause-takes : goal.returns-clause-takes
returns-clause-takes c = takes (link_at c.args.links.now) c.args.count c.args.at.0 c.requires.order c.requires.at_in (link_at c.skip.new.links) c.skip.ensures.skips

pub returns-clause-head : goal.returns-clause-head
returns-clause-head c = c.skip.ensures.keys 0 (λ e. slot_not_head (link_at c.args.links.now) _ c.requires.order c.args.at.0 c.requires.at_in (sym e)) c.requires.head
