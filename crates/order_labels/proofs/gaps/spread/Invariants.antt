use Rattle.std.proofs.Common.{◌≡◌, ◌+◌, ◌*◌}
use Rattle.order_labels.specs.Chain.{link_at, next_of, go, Spreads, KeepsRoom}
use Rattle.order_labels.proofs.gaps.spread.Given as goal

abbrev pub invariant-loop-turn : goal.invariant-loop-turn
invariant-loop-turn l = record {
  here : l.at.0 ≡ go (next_of (link_at l.fn.links)) l.fn.before.0 l._turn;
  sum : l.label ≡ l.base + l._turn * l.step;
  spreads : Spreads (link_at l.fn.links) (link_at l.links) l.fn.before.0 l._turn l.base l.step;
  room : KeepsRoom l.fn.links l.links;
}
