use Rattle.native_set.proofs.Masks.{masked}
use Rattle.native_set.proofs.arithmetic.low.Goals as goal

pub returns : goal.returns
returns c = masked c.args.bits c.args.width c.requires
