use Rattle.std.proofs.Common.{drop, map}
use Rattle.std.specs.Prelude.{◌↔◌, option_copied}
use Rattle.segment_sizes.specs.Sizes.{parts}
use Rattle.segment_sizes.specs.Reading.{parts_left, segments_in}
use Rattle.pdll_expand.specs.View.{expr_of}
use Rattle.row_matcher.specs.View.{thing_of}
use Rattle.row_matcher.specs.Segments.{AreDenoted}
use Rattle.row_matcher.proofs.matching.segments.has_segments.Given as goal

abbrev pub invariant-loop-e : goal.invariant-loop-e
invariant-loop-e l =
    AreDenoted l.rows (map thing_of l.given) (map expr_of l.exprs) (segments_in (parts l.sizes) l.all)
    ↔ AreDenoted l.rows (map thing_of l.given) (map expr_of (drop l.e-index l.exprs)) (segments_in (parts_left (option_copied l.left)) l.rest)
