use Rattle.std.proofs.Common.{ℕ, ◌∙◌, take, ap, sym, arith, length}
use Rattle.std.specs.List.{prefix_len}
use Rattle.std.proofs.lemmas.List.{take_min, length-take}
use Rattle.byte_lanes.specs.Bytes.{is_in}
use Rattle.byte_lanes.proofs.Blocks.{block_whole, block_part}
use Rattle.byte_lanes.proofs.scan.front_run.Goals as goal

pub returns-then-short-lt-FIRST-clause-value : goal.returns-then-short-lt-FIRST-clause-value
returns-then-short-lt-FIRST-clause-value c =
    let p = is_in c.args.class in
    let xs = c.args.bytes.now in
    let first = ap (λ (n : ℕ). take n xs) c.min.ensures ∙ take_min 16 xs in
    sym (block_part p xs 16 c.short_run-short.result (c.short_run-short.ensures.value ∙ ap (prefix_len p) first) (omega arith))

pub returns-else-short-lt-FIRST-clause-value : goal.returns-else-short-lt-FIRST-clause-value
returns-else-short-lt-FIRST-clause-value c =
    let p = is_in c.args.class in
    let xs = c.args.bytes.now in
    let first = ap (λ (n : ℕ). take n xs) c.min.ensures ∙ take_min 16 xs in
    let within = c.short_run-short.ensures.within in
    let all = ap length first in
    let whole = block_whole p xs 16 c.short_run-short.result (c.short_run-short.ensures.value ∙ ap (prefix_len p) first) (omega (arith, within, all, length-take 16 xs)) (omega (arith, within, all, length-take 16 xs)) in
    omega (arith, whole, c.long_run.ensures.value)
