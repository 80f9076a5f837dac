use Rattle.std.proofs.Common.{[], ◌∷◌, map}
use Rattle.std.specs.Option.{option_map}
use Rattle.rewrite_model.specs.Making.{part}
use Rattle.row_matcher.specs.View.{thing_of}
use Rattle.pdll_patterns.specs.View.{part_of}
use Rattle.rewrite_step.specs.View.{start_of, progress_of}
use Rattle.rewrite_step.proofs.Concatenating.{IsFound}
use Rattle.rewrite_step.proofs.progress.Progress.things_at.Given as goal

abbrev pub invariant-loop-x : goal.invariant-loop-x
invariant-loop-x l = IsFound (λ x. option_map (λ t. t ∷ []) (part (start_of l.start) (progress_of l.self) (part_of x))) l.xs l.x-index (map thing_of l.found)
