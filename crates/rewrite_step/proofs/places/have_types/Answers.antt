use Rattle.rewrite_step.proofs.Typing.{placewise, not_as_long}
use Rattle.rewrite_step.proofs.places.have_types.Goals as goal

pub returns-then-values-types : goal.returns-then-values-types
returns-then-values-types c = not_as_long c.args.rows.now c.args.values.now c.args.types.now c.if-values-types.true

pub loop-i-init : goal.loop-i-init
loop-i-init c = placewise c.args.rows.now c.args.values.now c.args.types.now
