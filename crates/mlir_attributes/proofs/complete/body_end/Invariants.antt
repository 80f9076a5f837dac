use Rattle.std.proofs.Common.{◌≡◌, ◌-◌, ◌≤◌, length}
use Rattle.mlir_attributes.specs.Complete.{body_end, body_start}
use Rattle.mlir_attributes.proofs.complete.body_end.Given as goal

abbrev pub invariant-loop-turn : goal.invariant-loop-turn
invariant-loop-turn l =
    (body_end (length l.bytes - l.at) l.bytes (body_start l.at) ≡ body_end (l._turn-end - l._turn) l.bytes l.body) × (l.body.at ≤ length l.bytes)
