use Rattle.std.proofs.Common.{◌≡◌, ◌≤◌, length, take}
use Rattle.mlir_resolve.specs.Scopes.{lookup}
use Rattle.mlir_resolve.proofs.sight.find_around.Given as goal

abbrev pub invariant-loop-at : goal.invariant-loop-at
invariant-loop-at l = (l.at ≤ length l.outer) × (lookup (take l.at l.outer) l.name ≡ lookup l.outer l.name)

abbrev pub decreases-loop-at : goal.decreases-loop-at
decreases-loop-at l = l.at
