use Rattle.std.proofs.Common.{[], ◌∷◌}
use Rattle.std.specs.Option.{option_map}
use Rattle.rewrite_model.specs.Making.{entry_at}
use Rattle.pdll_patterns.specs.View.{named_part_of}
use Rattle.rewrite_step.specs.View.{start_of, progress_of}
use Rattle.rewrite_step.proofs.Concatenating.{IsFound}
use Rattle.rewrite_step.proofs.progress.Progress.entries_at.Given as goal

abbrev pub invariant-loop-x : goal.invariant-loop-x
invariant-loop-x l = IsFound (λ x. option_map (λ e. e ∷ []) (entry_at (start_of l.start) (progress_of l.self) (named_part_of x))) l.xs l.x-index l.found
