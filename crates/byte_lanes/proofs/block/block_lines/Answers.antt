use Rattle.std.proofs.Common.{◌∙◌, ◌-◌, ap, sym, length, arith}
use Rattle.std.specs.List.{count_by}
use Rattle.std.proofs.lemmas.List.{take_all}
use Rattle.byte_lanes.specs.Bytes.{is_line_feed}
use Rattle.byte_lanes.proofs.Blocks.{padded_lines}
use Rattle.byte_lanes.proofs.block.block_lines.Goals as goal

pub returns-else-bytes-ge-LANES : goal.returns-else-bytes-ge-LANES
returns-else-bytes-ge-LANES c =
    let xs = c.args.bytes.now in
    c.line_feeds-else-bytes-ge-LANES.ensures ∙ ap (count_by is_line_feed) c.padded.ensures ∙ padded_lines xs (32 - length xs)
    ∙ ap (count_by is_line_feed) (sym (take_all 32 xs (omega arith)))
