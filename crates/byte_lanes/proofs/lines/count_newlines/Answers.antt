use Rattle.std.proofs.Common.{◌≡◌, ◌+◌, drop, take, arith}
use Rattle.std.specs.List.{count_by}
use Rattle.std.proofs.lemmas.List.{take_rest, length-take}
use Rattle.std.proofs.lemmas.List.Sums.{count_by-le-length}
use Rattle.byte_lanes.specs.Bytes.{is_line_feed}
use Rattle.byte_lanes.proofs.Blocks.{lines_step}
use Rattle.byte_lanes.proofs.lines.count_newlines.Goals as goal

pub overflow_add-count : goal.overflow_add-count
overflow_add-count c =
    let xs = c.args.bytes.now in
    let is : c.block_lines-count.result ≡ count_by is_line_feed (take 32 (drop c.loop-at.at xs)) = rw take_rest at c.block_lines-count.ensures in
    let most = count_by-le-length is_line_feed (take (c.loop-at.at + 32) xs) in
    record { fits = omega (arith, lines_step xs c.loop-at.at 32, c.loop-at.invariant, is, most, length-take (c.loop-at.at + 32) xs) }

pub loop-at-preserved : goal.loop-at-preserved
loop-at-preserved c =
    let xs = c.args.bytes.now in
    let is : c.block_lines-count.result ≡ count_by is_line_feed (take 32 (drop c.loop-at.at xs)) = rw take_rest at c.block_lines-count.ensures in
    omega (arith, lines_step xs c.loop-at.at 32, c.loop-at.invariant, is)
