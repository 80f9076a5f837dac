use Rattle.std.proofs.Common.{◌∙◌, ◌+◌, sym, arith}
use Rattle.text_scan.proofs.GapLaws.{past_spaces, past_comment, gap_ends, gap_is_longest}
use Rattle.text_scan.proofs.gaps.gap_end.Goals as goal

pub loop-end-init : goal.loop-end-init
loop-end-init c =
    let (gap, no_space) = past_spaces c.args.bytes.now c.args.at c.run_len.result c.run_len.ensures.value in
    record { gap = gap; no_space = no_space; within = c.run_len.ensures.within; in_order = omega arith }

pub loop-end-preserved : goal.loop-end-preserved
loop-end-preserved c =
    let begins = sym c.is_comment_start.ensures ∙ c.loop-end-test.true in
    let (over, some) = past_comment c.args.bytes.now c.loop-end.end c.run_len-end.result c.run_len-end.ensures.value begins in
    let (gap, no_space) = past_spaces c.args.bytes.now (c.loop-end.end + c.run_len-end.result) c.run_len-end-in-loop-end.result c.run_len-end-in-loop-end.ensures.value in
    record {
      gap = c.loop-end.invariant.gap ∙ over ∙ gap;
      no_space = no_space;
      within = c.run_len-end-in-loop-end.ensures.within;
      in_order = omega arith;
    }

pub returns-clause-gap : goal.returns-clause-gap
returns-clause-gap c =
    let ends = gap_ends c.args.bytes.now c.loop-end.end c.loop-end.invariant.no_space (sym c.is_comment_start.ensures ∙ c.loop-end-test.false) in
    gap_is_longest c.args.bytes.now c.args.at c.loop-end.end (omega arith) (sym (c.loop-end.invariant.gap ∙ ends))
