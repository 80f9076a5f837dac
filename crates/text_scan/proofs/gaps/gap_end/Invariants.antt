use Rattle.std.proofs.Common.{◌≡◌, ◌+◌, ◌-◌, ◌≤◌, length, drop}
use Rattle.std.specs.List.{prefix_len}
use Rattle.text_scan.specs.Bytes.{is_in}
use Rattle.byte_lanes.specs.declared.class.Class.TheVariants.{Space}
use Rattle.text_scan.specs.Gaps.{gap_len}
use Rattle.text_scan.proofs.gaps.gap_end.Given as goal

abbrev pub invariant-loop-end : goal.invariant-loop-end
invariant-loop-end l = record {
  gap : l.at + gap_len (drop l.at l.bytes) ≡ l.end + gap_len (drop l.end l.bytes);
  no_space : prefix_len (is_in Space) (drop l.end l.bytes) ≡ 0;
  within : l.end ≤ length l.bytes;
  in_order : l.at ≤ l.end;
}

abbrev pub decreases-loop-end : goal.decreases-loop-end
decreases-loop-end l = length l.bytes - l.end
