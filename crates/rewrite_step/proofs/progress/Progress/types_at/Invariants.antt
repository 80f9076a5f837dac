use Rattle.std.specs.Option.{option_and_then}
use Rattle.rewrite_model.specs.Things.{types_in}
use Rattle.rewrite_model.specs.Making.{part}
use Rattle.pdll_patterns.specs.View.{part_of}
use Rattle.rewrite_step.specs.View.{start_of, progress_of}
use Rattle.rewrite_step.proofs.Concatenating.{IsFound}
use Rattle.rewrite_step.proofs.progress.Progress.types_at.Given as goal

abbrev pub invariant-loop-x : goal.invariant-loop-x
invariant-loop-x l = IsFound (λ x. option_and_then types_in (part (start_of l.start) (progress_of l.self) (part_of x))) l.xs l.x-index l.found
