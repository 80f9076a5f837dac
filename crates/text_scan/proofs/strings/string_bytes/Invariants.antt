use Rattle.std.proofs.Common.{◌≡◌, ◌-◌, ◌<◌, ◌++◌, length, drop}
use Rattle.text_scan.specs.Strings.{string_value, inside_value}
use Rattle.text_scan.proofs.strings.string_bytes.Given as goal

abbrev pub invariant-loop-i : goal.invariant-loop-i
invariant-loop-i l = record {
  value : string_value l.text ≡ l.value.items ++ inside_value 0 (drop l.i l.text);
  some : 0 < l.i;
}

abbrev pub decreases-loop-i : goal.decreases-loop-i
decreases-loop-i l = length l.text - l.i
