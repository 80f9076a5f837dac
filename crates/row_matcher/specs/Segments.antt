-- The segments of a row's operands against a list of expressions.
use Rattle.std.specs.Prelude.{◌≡◌, ℕ, List, Option, Some, None}
use Rattle.mlir_tree.specs.declared.row.Row.{Row}
use Rattle.mlir_tree.specs.declared.value.Val.{Val}
use Rattle.segment_sizes.specs.Sizes.{parts}
use Rattle.segment_sizes.specs.declared.segments.Segment.{Segment}
use Rattle.segment_sizes.specs.Reading.{segments_in, after_segment}
use Rattle.rewrite_model.specs.Pattern.{Expr}
use Rattle.rewrite_model.specs.Segments.{segments_of}
use Rattle.rewrite_model.specs.Things.{Thing, each, values_denoted}

-- These segments are there, and each expression denotes the values of its own.
abbrev pub AreDenoted : List Row → List Thing → List Expr → Option (List (List Val)) → Type 0
AreDenoted rows a es o = (ss : List (List Val)) × (o ≡ Some ss) × (each (values_denoted rows a) es ≡ Some ss)

-- The text spells the sizes of the row's segments, or it has none.
abbrev pub SpellsSegments : Row → Option (List ℕ) → Type 0
SpellsSegments r None = segments_of r ≡ None
SpellsSegments r (Some text) = (ss : List (List Val)) × (segments_of r ≡ Some ss) × (segments_in (parts text) r.operands ≡ Some ss)

-- The first segment of a list by the sizes that are left, or there is none.
abbrev pub IsNextSegment : Option (List ℕ) → List Val → Option (Segment Val) → Type 0
IsNextSegment None vs o = o ≡ None
IsNextSegment (Some text) vs o = segments_in (parts text) vs ≡ after_segment o
