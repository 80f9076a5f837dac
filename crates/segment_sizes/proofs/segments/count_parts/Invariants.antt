use Rattle.std.proofs.Common.{◌≡◌, ◌+◌, ◌≤◌, length, option_map}
use Rattle.std.specs.Prelude.{option_and_then, option_copied}
use Rattle.segment_sizes.specs.Sizes.{parts, sizes_of}
use Rattle.segment_sizes.specs.Segments.{fitting}
use Rattle.segment_sizes.specs.Reading.{parts_left}
use Rattle.segment_sizes.proofs.segments.count_parts.Given as goal

abbrev pub invariant-loop-left : goal.invariant-loop-left
invariant-loop-left l = record {
  all : option_map (λ ns. l.count + length ns) (option_and_then (fitting l.open) (sizes_of (parts_left (option_copied l.left)))) ≡ option_map length (option_and_then (fitting l.total) (sizes_of (parts l.fn.text)));
  within : l.count + length (parts_left (option_copied l.left)) ≤ length l.fn.text + 1;
}

abbrev pub decreases-loop-left : goal.decreases-loop-left
decreases-loop-left l = length (parts_left (option_copied l.left))
