use Rattle.segment_sizes.specs.Sizes.{parts, sizes_of}
use Rattle.std.specs.Prelude.{option_and_then}
use Rattle.std.proofs.Common.{arith}
use Rattle.segment_sizes.specs.Segments.{fitting}
use Rattle.segment_sizes.proofs.Reading.{length_parts, none_before}
use Rattle.segment_sizes.proofs.segments.count_parts.Goals as goal

pub loop-left-init : goal.loop-left-init
loop-left-init c = record {
  all = none_before (option_and_then (fitting c.args.total) (sizes_of (parts c.args.text.now)));
  within = let l = length_parts c.args.text.now in omega (arith, l);
}
