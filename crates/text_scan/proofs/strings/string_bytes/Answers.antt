use Rattle.std.proofs.Common.{◌∙◌, ◌++◌, ap, arith, append_assoc}
use Rattle.text_scan.proofs.StringLaws.{part_step}
use Rattle.text_scan.proofs.strings.string_bytes.Goals as goal

pub loop-i-preserved : goal.loop-i-preserved
loop-i-preserved c =
    let step = part_step c.args.text.now c.loop-i.i c.in-Some.part c.loop-i-test.true (c.in-Some.ensures {u = tt}).value in
    record {
      value = rw (c.in_ok-push.ensures {u = tt}).items (rw append_assoc (c.loop-i.invariant.value ∙ ap (λ t. c.loop-i.value.items ++ t) step));
      some = omega arith;
    }
