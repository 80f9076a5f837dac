use Rattle.std.proofs.Common.{◌≡◌, List, Some, drop, map}
use Rattle.std.specs.Prelude.{option_copied}
use Rattle.mlir_tree.specs.declared.value.Val.{Val}
use Rattle.segment_sizes.specs.Sizes.{parts}
use Rattle.segment_sizes.specs.Reading.{parts_left, segments_in}
use Rattle.pdll_expand.specs.View.{expr_of}
use Rattle.row_matcher.specs.Learning.{known_of, tell_segments}
use Rattle.row_matcher.proofs.matching.learning.tell_segments.Given as goal

abbrev pub invariant-loop-e : goal.invariant-loop-e
invariant-loop-e l = record {
  there : (ss : List (List Val)) × (segments_in (parts_left (option_copied l.left)) l.rest ≡ Some ss);
  told : tell_segments l.kinds (map expr_of (drop l.e-index l.exprs)) (segments_in (parts_left (option_copied l.left)) l.rest) (known_of l.known)
      ≡ tell_segments l.kinds (map expr_of l.exprs) (segments_in (parts l.sizes) l.all) (known_of l.fn.known);
}
