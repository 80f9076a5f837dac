use Rattle.std.proofs.Common.{◌≡◌, ◌+◌, ◌-◌, ◌≤◌, length, drop}
use Rattle.std.specs.List.{prefix_len}
use Rattle.byte_lanes.specs.Bytes.{is_in}
use Rattle.byte_lanes.proofs.scan.long_run.Given as goal

abbrev pub invariant-loop-at : goal.invariant-loop-at
invariant-loop-at l =
    (l.at + prefix_len (is_in l.class) (drop l.at l.bytes) ≡ l.from + prefix_len (is_in l.class) (drop l.from l.bytes)) × (l.from ≤ l.at) × (l.at ≤ length l.bytes)

abbrev pub decreases-loop-at : goal.decreases-loop-at
decreases-loop-at l = length l.bytes - l.at
