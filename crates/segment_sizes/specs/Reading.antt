-- Sizes that are read part by part.
use Rattle.std.specs.Prelude.{ℕ, nat_le, if◌then◌else◌, List, [], ◌∷◌, length, Option, Some, None, option_map, option_and_then, option_copied}
use Rattle.segment_sizes.specs.declared.segments.Segment.{Segment}
use Rattle.segment_sizes.specs.Sizes.{parts, sizes_of}
use Rattle.segment_sizes.specs.Segments.{fitting, runs}

-- this number, where it isn't above `most`
abbrev pub up_to : ℕ → ℕ → Option ℕ
up_to most n = if nat_le n most then Some n else None

-- the parts that are still to be read
abbrev pub parts_left : Option (List ℕ) → List (List ℕ)
parts_left None = []
parts_left (Some text) = parts text

-- the segments of a list by the sizes in these parts
abbrev pub segments_in : {X : Type 0} → List (List ℕ) → List X → Option (List (List X))
segments_in ps xs = option_map (λ ns. runs ns xs) (option_and_then (fitting (length xs)) (sizes_of ps))

-- a segment, and behind it those of the rest
abbrev pub after_segment : {X : Type 0} → Option (Segment X) → Option (List (List X))
after_segment None = None
after_segment (Some s) = option_map (λ ss. s.items.now ∷ ss) (segments_in (parts_left (option_copied s.sizes)) s.rest.now)
