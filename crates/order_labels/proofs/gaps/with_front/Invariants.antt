use Rattle.order_labels.specs.Chain.{link_at, label_of, IsStretch}
use Rattle.order_labels.proofs.gaps.with_front.Given as goal

abbrev pub invariant-loop-before : goal.invariant-loop-before
invariant-loop-before l = IsStretch (link_at l.links) l.count l.fn.at.0 l.before.0 l.len l.stretch.after.0

abbrev pub decreases-loop-before : goal.decreases-loop-before
decreases-loop-before l = label_of (link_at l.links) l.before.0
