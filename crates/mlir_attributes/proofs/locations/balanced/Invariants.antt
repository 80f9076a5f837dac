use Rattle.std.proofs.Common.{◌≡◌, ◌-◌, ◌≤◌, length}
use Rattle.mlir_attributes.specs.Steps.{balanced}
use Rattle.mlir_attributes.proofs.locations.balanced.Given as goal

abbrev pub invariant-loop-turn : goal.invariant-loop-turn
invariant-loop-turn l =
    (balanced (length l.bytes - l.from) l.bytes l.room 1 l.from ≡ balanced (l._turn-end - l._turn) l.bytes l.room l.depth l.at)
    × (l.at ≤ length l.bytes) × (1 ≤ l.depth)
