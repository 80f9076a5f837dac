use Rattle.std.proofs.Common.{◌≡◌, ◌+◌, suc, ap, sym, subst, ◌∙◌, arith}
use Rattle.std.proofs.Math.Nat.{suc-mul, mul-le-mul_right}
use Rattle.slab.specs.Slab.{ContainsKey}
use Rattle.order_labels.specs.Chain.{link_at, next_of, go}
use Rattle.order_labels.proofs.Spreading.{spread_more, next_step, label_step}
use Rattle.order_labels.proofs.gaps.spread.Goals as goal

pub overflow_add-label : goal.overflow_add-label
overflow_add-label c =
    omega (
      arith,
      c.loop-turn.invariant.sum,
      suc-mul c.loop-turn._turn c.args.step,
      mul-le-mul_right {m = suc c.loop-turn._turn} {n = c.args.len} c.args.step (omega (arith, c.loop-turn-test.true)),
      c.requires.top,
    )

pub set_label-requires : goal.set_label-requires
set_label-requires c =
    let old = link_at c.args.links.now in
    let x_is = next_step old (link_at c.loop-turn.links) c.args.before.0 c.loop-turn._turn c.loop-turn.at.0 c.loop-turn.invariant.here c.loop-turn.invariant.spreads.nexts c.look.result c.look.ensures in
    record { there = c.loop-turn.invariant.room.keys _ (subst (ContainsKey c.args.links.now) (sym x_is) (c.requires.there (suc c.loop-turn._turn) (omega arith) (omega (arith, c.loop-turn-test.true)))) }

pub loop-turn-preserved : goal.loop-turn-preserved
loop-turn-preserved c =
    let old = link_at c.args.links.now in
    let x_is = next_step old (link_at c.loop-turn.links) c.args.before.0 c.loop-turn._turn c.loop-turn.at.0 c.loop-turn.invariant.here c.loop-turn.invariant.spreads.nexts c.look.result c.look.ensures in
    let more : suc c.loop-turn._turn ≡ c.loop-turn._turn + 1 = omega arith in
    let sum = label_step c.args.base c.loop-turn._turn c.args.step c.loop-turn.label c.loop-turn.invariant.sum in
    record {
      here = x_is ∙ ap (go (next_of old) c.args.before.0) more;
      sum = sum;
      spreads = spread_more old (link_at c.loop-turn.links) (link_at c.set_label.new.links) c.args.before.0 c.loop-turn._turn c.args.base c.args.step (c.loop-turn.label + c.args.step)
          c.look.result.next.0 c.loop-turn.invariant.spreads x_is sum c.set_label.ensures.sets
          (λ i l. c.requires.apart i (suc c.loop-turn._turn) l (omega (arith, c.loop-turn-test.true)));
      room = record {
        len = c.set_label.ensures.room.len ∙ c.loop-turn.invariant.room.len;
        capacity = c.set_label.ensures.room.capacity ∙ c.loop-turn.invariant.room.capacity;
        keys = λ x k. c.set_label.ensures.room.keys x (c.loop-turn.invariant.room.keys x k);
      };
    }
