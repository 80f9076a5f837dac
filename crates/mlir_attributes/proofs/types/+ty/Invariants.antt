use Rattle.std.proofs.Common.{◌≡◌, ◌+◌, ◌-◌, ◌*◌}
use Rattle.mlir_attributes.specs.Input.{items, separated}
use Rattle.mlir_attributes.specs.Types.{ty}
use Rattle.mlir_lexer.specs.declared.token.TokenKind.TheVariants.{Comma}
use Rattle.mlir_attributes.proofs.types.+ty.Given as goal

abbrev pub decreases-ty : goal.decreases-ty
decreases-ty l = 4 * l.room

abbrev pub decreases-ty_items : goal.decreases-ty_items
decreases-ty_items l = 4 * l.room + 1

abbrev pub decreases-ty_list : goal.decreases-ty_list
decreases-ty_list l = 4 * l.room + 2

abbrev pub decreases-function : goal.decreases-function
decreases-function l = 4 * l.room + 3

abbrev pub invariant-ty_items-loop-turn : goal.invariant-ty_items-loop-turn
invariant-ty_items-loop-turn l = items (ty l.aliases l.room) l.fn.reader ≡ separated Comma (ty l.aliases l.room) (l._turn-end - l._turn) l.found l.reader
