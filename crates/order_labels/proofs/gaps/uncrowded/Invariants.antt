use Rattle.std.proofs.Common.{◌≡◌, ◌+◌, ◌-◌, ◌≤◌, ◌^◌}
use Rattle.order_labels.specs.Chain.{link_at, label_of, limit_of, IsStretch, top}
use Rattle.order_labels.proofs.gaps.uncrowded.Given as goal

abbrev pub invariant-loop-stretch : goal.invariant-loop-stretch
invariant-loop-stretch l = record {
  stretch : IsStretch (link_at l.links) l.count l.at.0 l.stretch.before.0 l.stretch.len l.stretch.after.0;
  low : label_of (link_at l.links) l.stretch.before.0 ≤ l.range.base;
  high : l.range.base + l.range.width ≤ limit_of (link_at l.links) l.stretch.after.0;
  fits : l.range.base + l.range.width ≤ top;
  width : l.range.width ≡ 8 ^ l.level;
  some : 1 ≤ l.level;
  last : l.level ≤ 21;
}

abbrev pub decreases-loop-stretch : goal.decreases-loop-stretch
decreases-loop-stretch l = 21 - l.level
