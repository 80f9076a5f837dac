use Rattle.std.proofs.Common.{◌≡◌, take, map}
use Rattle.mlir_resolve.specs.Laid.{entry_pair}
use Rattle.mlir_resolve.proofs.entries.dict.Given as goal

abbrev pub invariant-loop-entry : goal.invariant-loop-entry
invariant-loop-entry l = l.copied ≡ map entry_pair (take l.entry-index l.entries)
