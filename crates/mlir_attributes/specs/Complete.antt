-- Whether the tokens of a type are all there, whatever its widths, its aliases and its brackets are.
use Rattle.std.specs.Prelude.{ℕ, zero, suc, ◌+◌, ◌-◌, Bool, true, false, ◌&&◌, ◌||◌, ◌==◌, nat_le, if◌then◌else◌, List, [], ◌∷◌, ◌++◌, length, take, drop, slice_index, slice_get, Option, Some, None, Result, Ok, Err}
use Rattle.text_scan.specs.Strings.{string_end}
use Rattle.mlir_lexer.specs.Body.{effect_of}
use Rattle.mlir_lexer.specs.Scan.{token_at}
use Rattle.mlir_lexer.specs.declared.body.Effect.{Effect}
use Rattle.mlir_lexer.specs.declared.body.Effect.TheVariants as effects
use Rattle.mlir_lexer.specs.declared.token.Token.{Token}
use Rattle.mlir_lexer.specs.declared.token.LexFault.{LexFault}
use Rattle.mlir_lexer.specs.declared.token.TokenKind.{TokenKind}
use Rattle.mlir_lexer.specs.declared.token.TokenKind.TheVariants as k
use Rattle.mlir_attributes.specs.declared.complete.Body.{Body}
use Rattle.mlir_attributes.specs.declared.complete.Bracket.{Bracket}
use Rattle.mlir_attributes.specs.declared.complete.Bracket.TheVariants as brackets
use Rattle.mlir_attributes.specs.declared.complete.Phase.{Phase}
use Rattle.mlir_attributes.specs.declared.complete.Phase.TheVariants as phases
use Rattle.mlir_attributes.specs.declared.complete.Shape.{Shape}
use Rattle.mlir_attributes.specs.Place.{Place, moved, left}
use Rattle.mlir_attributes.specs.Input.{Outcome, Parser, ◌>>=◌, ◌>>◌, pure, refuse, peek, see, ahead, take_token}
use Rattle.mlir_attributes.specs.Brackets.{innermost, closers_by}
use Rattle.mlir_attributes.specs.Types.{is_other_word, opens_body}

-- ---- kept bodies

-- behind a string that ends there
abbrev pub past_quote : Body → Option ℕ → Body
past_quote s None = record s { broken = true }
past_quote s (Some end) = record s { at = end; dash = false }

-- behind another byte, of this effect
abbrev pub past_byte : Body → Effect → ℕ → Body
past_byte s effects.Opens b = record s { closers = closers_by effects.Opens b s.closers }
past_byte s effects.Closes b = record s { closers = closers_by effects.Closes b s.closers }
past_byte s effects.Fails b = record s { broken = true }
past_byte s effects.Passes b = record s { closers = closers_by effects.Passes b s.closers }

-- One turn: a string or a byte.
unfoldable pub body_step : List ℕ → Body → Body
body_step bytes s =
    if nat_le (length bytes) s.at then record s { broken = true }
    else (if slice_index bytes s.at == 34 then past_quote s (string_end s.at (drop s.at bytes))
    else past_byte (record s { at = s.at + 1; dash = slice_index bytes s.at == 45 }) (effect_of (slice_index bytes s.at) (slice_index bytes (s.at + 1)) s.dash (innermost s.closers)) (slice_index bytes s.at))

-- The body breaks off, or all its brackets are closed.
abbrev pub is_over : Body → Bool
is_over s = s.broken || length s.closers == 0

abbrev pub end_of : Body → Option ℕ
end_of s = if s.broken then None else Some s.at

-- Where the body ends, if it does. The number bounds the turns, and each takes a byte.
unfoldable pub body_end : ℕ → List ℕ → Body → Option ℕ
body_end zero bytes s = None
body_end (suc n) bytes s = if is_over (body_step bytes s) then end_of (body_step bytes s) else body_end n bytes (body_step bytes s)

-- before the `<` of a body
abbrev pub body_start : ℕ → Body
body_start at = record { closers = []; dash = false; at = at; broken = false }

abbrev pub behind_body : Place → Option ℕ → Outcome (Unit {0})
behind_body s None = refuse s
behind_body s (Some end) = Ok (tt, moved s end)

abbrev pub past_body_at : Place → Result Token LexFault → Outcome (Unit {0})
past_body_at s (Ok t) =
    if opens_body s.bytes t.start then behind_body s (body_end (length s.bytes - t.start) s.bytes (body_start t.start)) else refuse s
past_body_at s (Err e) = refuse s

-- The kept body that begins with the next token, however many brackets are open in it.
unfoldable pub past_body : Parser (Unit {0})
past_body s = past_body_at s (token_at s.bytes s.at)

-- ---- tokens

-- the next token, and a kept body behind it
unfoldable pub past_name : Parser (Unit {0})
past_name = do
  take_token
  more ← see k.Less
  if more then past_body else pure tt

abbrev pub past_kind : Option TokenKind → Parser (Unit {0})
past_kind (Some k.Word) = ahead >>= (λ w. if is_other_word w then refuse else past_name)
past_kind (Some k.Bang) = past_name
past_kind _ = take_token >> pure tt

-- One token, where a word or a name counts as one with its body. A word that begins no type is refused.
abbrev pub past_token : Parser (Unit {0})
past_token = peek >>= past_kind

-- ---- types

abbrev pub shape : Phase → List Bracket → Shape
shape p around = record { phase = p; around = around }

-- behind `(`
unfoldable pub opened : Phase → List Bracket → Shape
opened phases.First around = shape phases.First (around ++ brackets.Parameters ∷ [])
opened phases.Item around = shape phases.First (around ++ brackets.Parameters ∷ [])
opened phases.Results around = shape phases.First (around ++ brackets.Results ∷ [])
opened phases.Behind around = shape phases.Broken around
opened phases.Arrow around = shape phases.Broken around
opened phases.Broken around = shape phases.Broken around

-- behind the `)` of a bracket
abbrev pub closed_phase : Option Bracket → Phase
closed_phase None = phases.Broken
closed_phase (Some brackets.Parameters) = phases.Arrow
closed_phase (Some brackets.Results) = phases.Behind

abbrev pub last : List Bracket → Option Bracket
last around = slice_get around (length around - 1)

abbrev pub without_last : List Bracket → List Bracket
without_last around = take (length around - 1) around

-- whether a `)` may come
abbrev pub may_close : Phase → Bool
may_close phases.First = true
may_close phases.Item = false
may_close phases.Results = false
may_close phases.Behind = true
may_close phases.Arrow = false
may_close phases.Broken = false

-- behind `)`
unfoldable pub closed : Phase → List Bracket → Shape
closed p around = if may_close p then shape (closed_phase (last around)) (without_last around) else shape phases.Broken around

-- behind a type that isn't written as a function type
abbrev pub behind_name : Phase → Phase
behind_name phases.First = phases.Behind
behind_name phases.Item = phases.Behind
behind_name phases.Results = phases.Behind
behind_name phases.Behind = phases.Broken
behind_name phases.Arrow = phases.Broken
behind_name phases.Broken = phases.Broken

-- behind a comma
abbrev pub behind_comma : Phase → Phase
behind_comma phases.First = phases.Broken
behind_comma phases.Item = phases.Broken
behind_comma phases.Results = phases.Broken
behind_comma phases.Behind = phases.Item
behind_comma phases.Arrow = phases.Broken
behind_comma phases.Broken = phases.Broken

-- behind `->`
abbrev pub behind_arrow : Phase → Phase
behind_arrow phases.First = phases.Broken
behind_arrow phases.Item = phases.Broken
behind_arrow phases.Results = phases.Broken
behind_arrow phases.Behind = phases.Broken
behind_arrow phases.Arrow = phases.Results
behind_arrow phases.Broken = phases.Broken

-- One turn: a token.
unfoldable pub shape_step : Shape → Option TokenKind → Shape
shape_step q (Some k.LeftParen) = opened q.phase q.around
shape_step q (Some k.RightParen) = closed q.phase q.around
shape_step q (Some k.Comma) = shape (behind_comma q.phase) q.around
shape_step q (Some k.Arrow) = shape (behind_arrow q.phase) q.around
shape_step q (Some k.Word) = shape (behind_name q.phase) q.around
shape_step q (Some k.Bang) = shape (behind_name q.phase) q.around
shape_step q _ = shape phases.Broken q.around

abbrev pub is_broken : Phase → Bool
is_broken phases.Broken = true
is_broken _ = false

abbrev pub is_behind : Phase → Bool
is_behind phases.Behind = true
is_behind _ = false

-- all of a type
abbrev pub is_whole : Shape → Bool
is_whole q = is_behind q.phase && length q.around == 0

-- The rest of a type's tokens. The number bounds the turns, and each takes a byte.
unfoldable pub type_tokens : ℕ → Shape → Parser (Unit {0})
type_tokens zero q = refuse
type_tokens (suc n) q = do
  next ← peek
  past_token
  if is_broken (shape_step q next).phase then refuse else (if is_whole (shape_step q next) then pure tt else type_tokens n (shape_step q next))

abbrev pub complete_type : Parser (Unit {0})
complete_type = λ s. type_tokens (left s) (shape phases.Item []) s

abbrev pub is_read : Outcome (Unit {0}) → Bool
is_read (Ok p) = true
is_read (Err e) = false

-- The tokens of a type stand there.
abbrev pub is_complete_type : Place → Bool
is_complete_type s = is_read (complete_type s)
