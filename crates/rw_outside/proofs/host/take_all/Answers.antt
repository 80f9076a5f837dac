use Rattle.std.proofs.Common.{◌∙◌, length-take, sym, ap, inr, arith}
use Rattle.rw_outside.specs.Outside.{prepended}
use Rattle.rw_outside.proofs.Taking.{few_left, few_left_more}
use Rattle.rw_outside.proofs.host.take_all.Goals as goal

pub returns-in_default-take-clause-takes_few : goal.returns-in_default-take-clause-takes_few
returns-in_default-take-clause-takes_few g c =
    inr (few_left _ _ _ c.loop-count.bytes.items (omega (arith, c.loop-count.invariant.inside))
    (c.loop-count.invariant.whole ∙ ap (prepended c.loop-count.bytes.items) (sym c.in_default-take.ensures.kept)))

pub returns-in_err-extend_from_slice-clause-takes_few : goal.returns-in_err-extend_from_slice-clause-takes_few
returns-in_err-extend_from_slice-clause-takes_few g c =
    inr (few_left_more c.args.limit c.in-Ok-take.count _ _ _ c.loop-count.bytes.items _
    (omega (arith, c.in-Ok-take.ensures.within, c.min-want.ensures, c.len.ensures, c.loop-count.invariant.inside, c.loop-count.invariant.room, length-take c.min-want.result c.loop-count.buf)) c.loop-count.invariant.whole c.in-Ok-take.ensures.next)
