use Rattle.pdll_patterns.specs.View.{pattern_of}
use Rattle.greedy_driver.proofs.Turns.{keeps}
use Rattle.greedy_driver.proofs.turn.told.Goals as goal

-- src/turn.rt:65:5
pub invariant_of-result : goal.invariant_of-result
invariant_of-result c =
    keeps (pattern_of c.args.pattern.now) c.args.hit c.args.before.now c.args.after.now c.in_ok-name.name c.in_ok-made.made c.in_ok-removed.removed
    c.in_ok-name.ensures c.in_ok-made.ensures c.in_ok-removed.ensures
    (c.numbers_rise.ensures (pattern_of c.args.pattern.now) c.args.hit c.args.before.now c.args.after.now)
