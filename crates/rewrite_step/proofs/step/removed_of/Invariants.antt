use Rattle.std.proofs.Common.{◌≡◌}
use Rattle.std.specs.Prelude.{filter}
use Rattle.std.specs.List.{range_with_len}
use Rattle.rewrite_step.specs.Marking.{was_removed}
use Rattle.rewrite_step.proofs.step.removed_of.Given as goal

abbrev pub invariant-loop-id : goal.invariant-loop-id
invariant-loop-id l = l.found ≡ filter (was_removed l.before l.after l.next) (range_with_len 0 l.id)
