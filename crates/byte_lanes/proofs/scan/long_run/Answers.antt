use Rattle.std.proofs.Common.{◌≡◌, ◌+◌, ◌≤◌, length, length-drop, drop, take, arith}
use Rattle.std.specs.List.{prefix_len}
use Rattle.std.proofs.lemmas.List.{take_rest}
use Rattle.byte_lanes.specs.Bytes.{is_in}
use Rattle.byte_lanes.proofs.Blocks.{block_whole_at, block_part}
use Rattle.byte_lanes.proofs.scan.long_run.Goals as goal

pub returns-then-n-lt-LANES-clause-value : goal.returns-then-n-lt-LANES-clause-value
returns-then-n-lt-LANES-clause-value c =
    let p = is_in c.args.class in
    let rest = drop c.loop-at.at c.args.bytes.now in
    let is : c.block_run-n.result ≡ prefix_len p (take 32 rest) = rw take_rest at c.block_run-n.ensures.value in
    let e = block_part p rest 32 c.block_run-n.result is (omega arith) in
    omega (arith, e, c.loop-at.invariant.0)

pub loop-at-preserved : goal.loop-at-preserved
loop-at-preserved c =
    let p = is_in c.args.class in
    let xs = c.args.bytes.now in
    let is : c.block_run-n.result ≡ prefix_len p (take 32 (drop c.loop-at.at xs)) = rw take_rest at c.block_run-n.ensures.value in
    let fits : c.loop-at.at + c.block_run-n.result ≤ length xs = let l : c.block_run-n.result ≤ length (drop c.loop-at.at xs) = rw take_rest at c.block_run-n.ensures.within in omega (arith, l, length-drop c.loop-at.at xs) in
    let e = block_whole_at p xs c.loop-at.at 32 c.block_run-n.result is (omega arith) fits in
    (omega (arith, e, c.loop-at.invariant.0), omega arith, fits)
