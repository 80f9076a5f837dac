-- The brackets that are open behind a byte of a text, by what closes them, the innermost last.
use Rattle.std.specs.Prelude.{ℕ, ◌-◌, List, [], ◌∷◌, ◌++◌, length, take, slice_index}
use Rattle.mlir_lexer.specs.Body.{closer}
use Rattle.mlir_lexer.specs.declared.body.Effect.{Effect}
use Rattle.mlir_lexer.specs.declared.body.Effect.TheVariants.{Opens, Closes, Fails, Passes}

abbrev pub innermost : List ℕ → ℕ
innermost closers = slice_index closers (length closers - 1)

abbrev pub outer : List ℕ → List ℕ
outer closers = take (length closers - 1) closers

-- what closes each open bracket, the innermost last, behind a byte of this effect
abbrev pub closers_by : Effect → ℕ → List ℕ → List ℕ
closers_by Opens b closers = closers ++ closer b ∷ []
closers_by Closes b closers = outer closers
closers_by Fails b closers = closers
closers_by Passes b closers = closers
