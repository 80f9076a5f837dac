use Rattle.std.proofs.Common.{arith}
use Rattle.native_set.proofs.Masks.{upper, mask_covers}
use Rattle.native_set.proofs.arithmetic.complement.Goals as goal

pub overflow_sub-result-2 : goal.overflow_sub-result-2
overflow_sub-result-2 c = mask_covers c.args.width c.args.bits c.requires.width c.requires.small

pub returns : goal.returns
returns c = upper c.args.width c.args.bits (omega (arith, c.if-width-eq0.false)) c.requires.width c.if-bits-width.false c.requires.small
