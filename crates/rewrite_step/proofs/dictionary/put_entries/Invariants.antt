use Rattle.std.proofs.Common.{◌≡◌, length}
use Rattle.mlir_attributes.specs.Dictionary.{named}
use Rattle.rewrite_step.specs.Sorting.{put_all}
use Rattle.rewrite_step.proofs.dictionary.put_entries.Given as goal

abbrev pub invariant-loop-name : goal.invariant-loop-name
invariant-loop-name l = put_all l.entries (named l.found) ≡ put_all l.initial.entries (named l.initial.found)

abbrev pub decreases-loop-name : goal.decreases-loop-name
decreases-loop-name l = length l.entries
