use Rattle.std.proofs.Common.{◌+◌, ◌*◌, ◌/◌, ◌≤◌, ℕ, subst, sym, arith}
use Rattle.order_labels.specs.Chain.{top}
use Rattle.order_labels.proofs.Levels.{some_width, width_below, aligned}
use Rattle.order_labels.proofs.gaps.range_of.Goals as goal

pub pow-width-requires : goal.pow-width-requires
pow-width-requires c = omega (arith, width_below c.args.level c.requires.level)

pub nonzero_div-result : goal.nonzero_div-result
nonzero_div-result c = omega (arith, c.pow-width.ensures, some_width c.args.level)

pub returns-clause-top : goal.returns-clause-top
returns-clause-top c =
    subst (λ (w : ℕ). c.args.label / w * w + w ≤ top) (sym c.pow-width.ensures) (aligned c.args.label c.args.level c.requires.level c.requires.label)
