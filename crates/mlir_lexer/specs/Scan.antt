-- The token at the front of a text, read byte by byte.
use Rattle.std.specs.Prelude.{ℕ, ◌+◌, ◌&&◌, ◌==◌, if◌then◌else◌, List, [], ◌∷◌, drop, slice_index, Option, Some, None, Result, Ok, Err}
use Rattle.std.specs.Option.{option_map_or}
use Rattle.std.specs.List.{prefix_len}
use Rattle.text_scan.specs.Bytes.{is_in, is_digit, is_word_start}
use Rattle.text_scan.specs.Hexadecimal.{is_hex_digit}
use Rattle.byte_lanes.specs.declared.class.Class.TheVariants as class
use Rattle.text_scan.specs.Strings.{string_end}
use Rattle.text_scan.specs.Gaps.{gap_len}
use Rattle.mlir_lexer.specs.Forms.{is_suffix_start, is_exponent_mark, is_sign}
use Rattle.mlir_lexer.specs.declared.token.Token.{Token}
use Rattle.mlir_lexer.specs.declared.token.TokenKind.{TokenKind}
use Rattle.mlir_lexer.specs.declared.token.TokenKind.TheVariants as kind
use Rattle.mlir_lexer.specs.declared.token.LexFault.{LexFault}
use Rattle.mlir_lexer.specs.declared.token.LexFault.TheVariants.{BadByte, BadString}

abbrev pub Outcome : Type 0
Outcome = Result Token LexFault

abbrev pub token : TokenKind → ℕ → ℕ → Outcome
token k at len = Ok (record { kind = k; start = at; end = at + len })

abbrev pub digits : List ℕ → ℕ
digits s = prefix_len (is_in class.Digit) s

-- the length of the longest suffix at the front, or 0
abbrev pub suffix_len : List ℕ → ℕ
suffix_len [] = 0
suffix_len (b ∷ s) =
    if is_digit b then 1 + digits s else (if is_suffix_start b then 1 + prefix_len (is_in class.Suffix) s else 0)

-- a mark, and as many bytes behind it, of which there must be some
abbrev pub behind : ℕ → ℕ → ℕ
behind mark len = if len == 0 then 0 else mark + len

-- the length of the exponent at the front, or 0
abbrev pub exponent_len : List ℕ → ℕ
exponent_len [] = 0
exponent_len (b ∷ s) =
    if is_exponent_mark b then (if is_sign (slice_index s 0) then behind 2 (digits (drop 1 s)) else behind 1 (digits s)) else 0

-- the length of what a float has behind its point
abbrev pub fraction_len : List ℕ → ℕ
fraction_len s = digits s + exponent_len (drop (digits s) s)

-- the length of the hexadecimal number at the front, or 0
abbrev pub hex_len : List ℕ → ℕ
hex_len s =
    if slice_index s 0 == 48 && slice_index s 1 == 120 then behind 2 (prefix_len is_hex_digit (drop 2 s)) else 0

abbrev pub number : ℕ → List ℕ → Outcome
number at s =
    if slice_index s (digits s) == 46 then token kind.Float at (digits s + 1 + fraction_len (drop (digits s + 1) s))
    else (if hex_len s == 0 then token kind.Integer at (digits s) else token kind.Integer at (hex_len s))

abbrev pub string : ℕ → List ℕ → Outcome
string at s = option_map_or (λ len. token kind.String at len) (string_end 0 s) (Err (BadString at))

abbrev pub suffixed : TokenKind → ℕ → List ℕ → Outcome
suffixed k at s = if suffix_len s == 0 then Err (BadByte at) else token k at (1 + suffix_len s)

-- behind `@`
abbrev pub symbol : ℕ → List ℕ → Outcome
symbol at s =
    if slice_index s 0 == 34 then option_map_or (λ len. token kind.Symbol at (1 + len)) (string_end 0 s) (Err (BadString (at + 1)))
    else suffixed kind.Symbol at s

-- the kind of a token that is this byte and a suffix
abbrev pub suffixed_kind : ℕ → Option TokenKind
suffixed_kind b =
    if b == 37 then Some kind.Value else (if b == 94 then Some kind.Label
    else (if b == 35 then Some kind.Hash else (if b == 33 then Some kind.Bang else None)))

-- the kind of a mark of one byte
abbrev pub mark_kind : ℕ → Option TokenKind
mark_kind b =
    if b == 40 then Some kind.LeftParen else (if b == 41 then Some kind.RightParen
    else (if b == 123 then Some kind.LeftBrace else (if b == 125 then Some kind.RightBrace
    else (if b == 91 then Some kind.LeftBracket else (if b == 93 then Some kind.RightBracket
    else (if b == 60 then Some kind.Less else (if b == 62 then Some kind.Greater
    else (if b == 44 then Some kind.Comma else (if b == 58 then Some kind.Colon
    else (if b == 61 then Some kind.Equal else (if b == 45 then Some kind.Minus else None)))))))))))

abbrev pub mark : ℕ → ℕ → List ℕ → Outcome
mark at b s =
    if b == 58 && slice_index s 0 == 58 then token kind.ColonColon at 2
    else (if b == 45 && slice_index s 0 == 62 then token kind.Arrow at 2
    else option_map_or (λ k. token k at 1) (mark_kind b) (Err (BadByte at)))

-- the token at the front of a text that stands at this place
abbrev pub first_token : ℕ → List ℕ → Outcome
first_token at [] = token kind.End at 0
first_token at (b ∷ s) =
    if is_word_start b then token kind.Word at (1 + prefix_len (is_in class.Word) s)
    else (if is_digit b then number at (b ∷ s)
    else (if b == 34 then string at (b ∷ s)
    else (if b == 64 then symbol at s
    else option_map_or (λ k. suffixed k at s) (suffixed_kind b) (mark at b s))))

-- the token at a place
unfoldable pub token_at : List ℕ → ℕ → Outcome
token_at bytes at = first_token (at + gap_len (drop at bytes)) (drop (at + gap_len (drop at bytes)) bytes)
