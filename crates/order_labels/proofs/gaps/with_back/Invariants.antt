use Rattle.std.proofs.Common.{◌-◌}
use Rattle.order_labels.specs.Chain.{link_at, limit_of, IsStretch, top}
use Rattle.order_labels.proofs.gaps.with_back.Given as goal

abbrev pub invariant-loop-after : goal.invariant-loop-after
invariant-loop-after l = IsStretch (link_at l.links) l.count l.fn.at.0 l.stretch.before.0 l.len l.after.0

abbrev pub decreases-loop-after : goal.decreases-loop-after
decreases-loop-after l = top - limit_of (link_at l.links) l.after.0
