use Rattle.std.proofs.Common.{◌≡◌, ◌<◌, ◌≤◌, length, ap, sym, ◌∙◌, arith}
use Rattle.std.specs.Prelude.{option_and_then}
use Rattle.std.specs.List.{prefix_len}
use Rattle.std.proofs.lemmas.Bool.Decides.{nat_tests}
use Rattle.std.proofs.lemmas.List.Sums.{prefix_len-le-length}
use Rattle.byte_lanes.specs.Bytes.{is_space}
use Rattle.segment_sizes.specs.Reading.{up_to}
use Rattle.segment_sizes.proofs.Reading.{size_read}
use Rattle.segment_sizes.proofs.sizes.size_up_to.Goals as goal

pub returns : goal.returns
returns c =
    let text = c.unspaced-text.result.now in
    let n = c.run_len.result in
    let rest = c.split_at.result.1.now in
    let some : 0 < n = let z = c.if-is_empty.ensures in let l = c.split_at.ensures.front_len in grind (arith, nat_tests) in
    let le : prefix_len is_space rest ≤ length rest = prefix_len-le-length is_space rest in
    let all : prefix_len is_space rest ≡ length rest = let v = c.run_len-else-is_empty.ensures.value in omega (arith, le, v, c.if-run_len-rest.false) in
    let back = c.split_at.ensures.back in
    c.value_up_to.ensures
    ∙ sym (ap (option_and_then (up_to c.args.most))
    (size_read c.args.part.now text c.split_at.result.0.now n c.unspaced-text.ensures c.run_len.ensures.value c.split_at.ensures.front some (ap (prefix_len is_space) (sym back) ∙ (all ∙ ap length back)) (let w = c.run_len.ensures.within in omega (arith, w))))
