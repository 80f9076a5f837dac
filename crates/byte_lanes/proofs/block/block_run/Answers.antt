use Rattle.std.proofs.Common.{◌∙◌, ◌-◌, ap, sym, length, take, replicate, arith, ℕ}
use Rattle.std.specs.List.{prefix_len}
use Rattle.std.specs.Prelude.{min}
use Rattle.std.proofs.lemmas.List.{take_all, length-take}
use Rattle.std.proofs.lemmas.List.Sums.{prefix_len-le-length}
use Rattle.byte_lanes.specs.Bytes.{is_in}
use Rattle.byte_lanes.proofs.Blocks.{padded_run}
use Rattle.byte_lanes.proofs.block.block_run.Goals as goal

pub returns-then-bytes-ge-LANES-clause-within : goal.returns-then-bytes-ge-LANES-clause-within
returns-then-bytes-ge-LANES-clause-within c =
    omega (arith, c.leading.ensures, prefix_len-le-length (is_in c.args.class) (take 32 c.args.bytes.now), length-take 32 c.args.bytes.now)

pub returns-then-bytes-ge-LANES-clause-few : goal.returns-then-bytes-ge-LANES-clause-few
returns-then-bytes-ge-LANES-clause-few c =
    omega (arith, c.leading.ensures, prefix_len-le-length (is_in c.args.class) (take 32 c.args.bytes.now), length-take 32 c.args.bytes.now)

pub returns-else-bytes-ge-LANES-clause-value : goal.returns-else-bytes-ge-LANES-clause-value
returns-else-bytes-ge-LANES-clause-value c =
    let xs = c.args.bytes.now in
    let p = is_in c.args.class in
    c.min.ensures ∙ ap (λ (n : ℕ). min n (length xs)) (c.leading-else-bytes-ge-LANES.ensures ∙ ap (prefix_len p) c.padded.ensures)
    ∙ padded_run p xs (replicate (32 - length xs) 0) ∙ ap (prefix_len p) (sym (take_all 32 xs (omega arith)))
