use Rattle.std.proofs.Common.{◌≡◌, ◌-◌}
use Rattle.mlir_lexer.specs.declared.token.TokenKind.TheVariants.{Comma}
use Rattle.mlir_attributes.specs.Input.{items, separated}
use Rattle.mlir_parse.specs.Operations.{a_result}
use Rattle.mlir_parse.proofs.operations.result_items.Given as goal

abbrev pub invariant-loop-turn : goal.invariant-loop-turn
invariant-loop-turn l = items a_result l.fn.reader ≡ separated Comma a_result (l._turn-end - l._turn) l.found l.reader
