use Rattle.std.proofs.Common.{Bool, ◌+◌, ◌*◌, ◌-◌, ◌≤◌, drop, length}
use Rattle.rw_outside.specs.Puts.{SinkState}
use Rattle.mlir_print.specs.Prints.{Prints}
use Rattle.mlir_print.specs.ModuleText.{inside_text, region_texts}
use Rattle.mlir_print.specs.Cursor.{IsOpen, AreInside, AreEarlier}
use Rattle.mlir_print.proofs.module.+put_row.Given as goal

abbrev pub decreases-put_block : goal.decreases-put_block
decreases-put_block g l = 4 * (length l.rows.now - l.from) + 4

abbrev pub decreases-put_region : goal.decreases-put_region
decreases-put_region g l = 4 * (length l.rows.now - l.at) + 1

abbrev pub decreases-put_regions : goal.decreases-put_regions
decreases-put_regions g l = 4 * (length l.rows.now - l.at) + 2

abbrev pub decreases-put_row : goal.decreases-put_row
decreases-put_row g l = 4 * (length l.rows.now - l.at) + 3

-- whatever puts the rest from here on puts all from the start
abbrev pub invariant-put_block-loop-sink : goal.invariant-put_block-loop-sink
invariant-put_block-loop-sink g l =
    (l.from ≤ l.end) × IsOpen l.rows l.at l.region l.end × AreInside l.rows l.at l.from l.end × AreEarlier l.rows l.at (l.region + 1) l.from l.end
    × ((is : Bool) (s : SinkState) → Prints l.ok is (g.S.Sink.state l.sink) s (inside_text l.rows l.end l.depth l.row l.region)
    → Prints l.fn.ok is (g.S.Sink.state l.fn.sink) s (inside_text l.rows l.from l.depth l.row l.region))

abbrev pub decreases-put_block-loop-sink : goal.decreases-put_block-loop-sink
decreases-put_block-loop-sink g l = length l.rows - l.end

abbrev pub invariant-put_regions-loop-region : goal.invariant-put_regions-loop-region
invariant-put_regions-loop-region g l =
    (l.at + 1 ≤ l.end) × IsOpen l.rows l.at l.region l.end × AreInside l.rows l.at (l.at + 1) l.end × AreEarlier l.rows l.at l.region (l.at + 1) l.end
    × ((is : Bool) (s : SinkState)
    → Prints l.ok is (g.S.Sink.state l.sink) s (region_texts l.rows l.depth l.row.id (inside_text l.rows (l.at + 1) (l.depth + 1) l.row) l.region (drop l.region l.row.regions))
    → Prints l.initial.ok is (g.S.Sink.state l.initial.sink) s (region_texts l.rows l.depth l.row.id (inside_text l.rows (l.at + 1) (l.depth + 1) l.row) 0 l.row.regions))
