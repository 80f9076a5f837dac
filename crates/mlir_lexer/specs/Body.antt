-- Where a kept body ends.
use Rattle.std.specs.Prelude.{ℕ, zero, suc, ◌+◌, ◌-◌, Bool, false, ◌&&◌, ◌||◌, not, ◌==◌, nat_le, if◌then◌else◌, List, [], ◌∷◌, length, drop, reverse, take, slice_index, Result, Ok, Err}
use Rattle.std.specs.Option.{option_map_or}
use Rattle.text_scan.specs.Strings.{string_end}
use Rattle.mlir_lexer.specs.declared.body.BodyFault.{BodyFault}
use Rattle.mlir_lexer.specs.declared.body.Effect.{Effect}
use Rattle.mlir_lexer.specs.declared.body.Effect.TheVariants.{Opens, Closes, Fails, Passes}
use Rattle.mlir_lexer.specs.declared.body.BodyFault.TheVariants.{Unclosed, TooDeep, BadString}

-- `<` with no `=` directly behind it, `(`, `[` and `{` open a bracket
abbrev pub opens : ℕ → ℕ → Bool
opens b next = (b == 60 && not (next == 61)) || (b == 40 || (b == 91 || b == 123))

-- the byte that closes the bracket that this byte opens
abbrev pub closer : ℕ → ℕ
closer b = if b == 40 then 41 else b + 2

-- `)`, `]` and `}` must close the innermost bracket
abbrev pub must_close : ℕ → Bool
must_close b = b == 41 || (b == 93 || b == 125)

-- what a byte outside strings does, before this next byte, where the byte before is `-` or not, and this closes the innermost bracket
abbrev pub effect_of : ℕ → ℕ → Bool → ℕ → Effect
effect_of b next dash innermost =
    if opens b next then Opens
    else (if (must_close b || (b == 62 && not dash)) && innermost == b then Closes
    else (if must_close b then Fails else Passes))

abbrev pub by_effect : Effect → Result ℕ BodyFault → Result ℕ BodyFault → Result ℕ BodyFault → Result ℕ BodyFault → Result ℕ BodyFault
by_effect Opens opened closed failed passed = opened
by_effect Closes opened closed failed passed = closed
by_effect Fails opened closed failed passed = failed
by_effect Passes opened closed failed passed = passed

-- what closes the innermost bracket
abbrev pub innermost : List ℕ → ℕ
innermost [] = 0
innermost (c ∷ cs) = c

abbrev pub outer : List ℕ → List ℕ
outer [] = []
outer (c ∷ cs) = cs

-- The end of a body of which this text is left at this place. The list has what closes each open bracket, the innermost
-- first, of which there may be `room`; `dash` says that the byte before is `-`; the first `skipped` bytes belong to a string.
abbrev pub body : ℕ → List ℕ → Bool → ℕ → ℕ → List ℕ → Result ℕ BodyFault
body room closers dash skipped at [] = Err (Unclosed at)
body room closers dash (suc n) at (b ∷ s) = body room closers false n (at + 1) s
body room closers dash zero at (b ∷ s) =
    if b == 34 then option_map_or (λ end. body room closers false (end - (at + 1)) (at + 1) s) (string_end at (b ∷ s)) (Err (BadString at))
    else by_effect (effect_of b (slice_index s 0) dash (innermost closers))
    (if nat_le room (length closers) then Err (TooDeep at) else body room (closer b ∷ closers) (b == 45) 0 (at + 1) s)
    (if nat_le (length closers) 1 then Ok (at + 1) else body room (outer closers) (b == 45) 0 (at + 1) s)
    (Err (Unclosed at))
    (body room closers (b == 45) 0 (at + 1) s)

-- The end of the body that begins with the `<` at a place, where so many brackets are open around it.
abbrev pub end_of_body : List ℕ → ℕ → ℕ → Result ℕ BodyFault
end_of_body bytes at depth = body (256 - depth) (62 ∷ []) false 0 (at + 1) (drop (at + 1) bytes)

-- the open brackets in an array, the innermost last
abbrev pub stack_of : List ℕ → ℕ → List ℕ
stack_of closers count = reverse (take count closers)
