use Rattle.std.proofs.Common.{◌≡◌, ◌-◌, ◌+◌, ◌^◌, ◌<◌, length, arith}
use Rattle.rewrite_model.specs.Making.{all_slots}
use Rattle.rewrite_step.proofs.Counting.{still_few, few_slots}
use Rattle.rewrite_step.proofs.step.all_slots.Goals as goal

pub overflow_add-slots-in-loop-at : goal.overflow_add-slots-in-loop-at
overflow_add-slots-in-loop-at c =
    let rows = c.args.rows.now in
    let at = c.loop-at.at in
    let is : at ≡ (at - 1) + 1 = omega arith in
    let h : at - 1 < length rows = omega (arith, c.loop-at.invariant.within) in
    let few = still_few rows at (at - 1) c.index-rows-at.result is h c.index-rows-at.is in
    let small : all_slots rows < 2 ^ 64 = few_slots (record { rows = rows; next = c.args.next }) c.requires (omega (arith, c.ranges.next.fits)) in
    omega (arith, few, small, c.loop-at.invariant.counted, c.len.ensures, c.len-in-loop-at.ensures)
