use Rattle.std.proofs.Common.{◌≡◌, ◌-◌}
use Rattle.mlir_lexer.specs.declared.token.TokenKind.TheVariants.{Comma}
use Rattle.mlir_attributes.specs.Input.{items, separated}
use Rattle.mlir_attributes.specs.Types.{ty}
use Rattle.mlir_parse.proofs.operations.operand_type_items.Given as goal

abbrev pub invariant-loop-turn : goal.invariant-loop-turn
invariant-loop-turn l = items (ty l.aliases l.room) l.fn.reader ≡ separated Comma (ty l.aliases l.room) (l._turn-end - l._turn) l.found l.reader
