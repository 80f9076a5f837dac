use Rattle.std.proofs.Common.{◌≡◌, ◌-◌, []}
use Rattle.mlir_lexer.specs.declared.token.TokenKind.TheVariants.{ColonColon}
use Rattle.mlir_attributes.specs.Place.{left}
use Rattle.mlir_attributes.specs.Input.{separated}
use Rattle.mlir_attributes.specs.Attributes.{symbol}
use Rattle.mlir_attributes.proofs.attributes.symbols.Given as goal

abbrev pub invariant-loop-turn : goal.invariant-loop-turn
invariant-loop-turn l = separated ColonColon symbol (left l.fn.reader) [] l.fn.reader ≡ separated ColonColon symbol (l._turn-end - l._turn) l.found l.reader
