use Rattle.std.proofs.Common.{◌≡◌, ◌-◌, []}
use Rattle.mlir_attributes.specs.declared.complete.Phase.TheVariants.{Item}
use Rattle.mlir_attributes.specs.Place.{left}
use Rattle.mlir_attributes.specs.Complete.{type_tokens, shape}
use Rattle.mlir_attributes.proofs.complete.pass_type.Given as goal

abbrev pub invariant-loop-turn : goal.invariant-loop-turn
invariant-loop-turn l = type_tokens (left l.fn.reader) (shape Item []) l.fn.reader ≡ type_tokens (l._turn-end - l._turn) l.shape l.reader
