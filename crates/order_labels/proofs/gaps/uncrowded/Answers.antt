use Rattle.std.proofs.Common.{◌≡◌, ◌-◌, ◌^◌, suc, ap, sym, subst, arith}
use Rattle.order_labels.specs.Chain.{link_at, IsStretch}
use Rattle.order_labels.proofs.Stretches.{first_stretch}
use Rattle.order_labels.proofs.Levels.{wide, four_within}
use Rattle.order_labels.proofs.gaps.uncrowded.Goals as goal

pub widened-stretch-requires-clause-stretch : goal.widened-stretch-requires-clause-stretch
widened-stretch-requires-clause-stretch c =
    let l = link_at c.args.links.now in
    subst (λ k. IsStretch l c.args.count c.args.at.0 k.prev.0 0 c.args.at.0) (sym c.look-label.ensures) (first_stretch l c.args.count c.requires.order c.args.at.0 c.requires.placed)

pub pow-requires : goal.pow-requires
pow-requires c = four_within c.loop-stretch.level c.loop-stretch.invariant.some c.loop-stretch.invariant.last

pub returns-clause-wide : goal.returns-clause-wide
returns-clause-wide c =
    let e : suc (c.loop-stretch.level - 1) ≡ c.loop-stretch.level = omega (arith, c.loop-stretch.invariant.some) in
    omega (arith, c.loop-stretch-test.false, c.pow.ensures, c.loop-stretch.invariant.width, wide (c.loop-stretch.level - 1), ap (λ n. 4 ^ n) e, ap (λ n. 8 ^ n) e)
