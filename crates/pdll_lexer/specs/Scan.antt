-- The token at the front of a text, read byte by byte.
use Rattle.std.specs.Prelude.{ℕ, ◌+◌, Bool, ◌&&◌, ◌==◌, if◌then◌else◌, List, [], ◌∷◌, drop, take, slice_index, codes, Option, Some, None, Result, Ok, Err}
use Rattle.std.specs.Option.{option_map_or}
use Rattle.std.specs.List.{prefix_len}
use Rattle.std.specs.Str.{bytes_eq}
use Rattle.text_scan.specs.Bytes.{is_in, is_digit, is_word_start}
use Rattle.byte_lanes.specs.declared.class.Class.TheVariants as class
use Rattle.text_scan.specs.Strings.{string_end}
use Rattle.text_scan.specs.Gaps.{gap_len}
use Rattle.pdll_lexer.specs.declared.token.Token.{Token}
use Rattle.pdll_lexer.specs.declared.token.TokenKind.{TokenKind}
use Rattle.pdll_lexer.specs.declared.token.TokenKind.TheVariants as kind
use Rattle.pdll_lexer.specs.declared.token.LexFault.{LexFault}
use Rattle.pdll_lexer.specs.declared.token.LexFault.TheVariants.{BadByte, BadString}

abbrev pub Outcome : Type 0
Outcome = Result Token LexFault

abbrev pub token : TokenKind → ℕ → ℕ → Outcome
token k at len = Ok (record { kind = k; start = at; end = at + len })

abbrev pub string : ℕ → List ℕ → Outcome
string at s = option_map_or (λ len. token kind.String at len) (string_end 0 s) (Err (BadString at))

-- the kind of a mark of one byte
abbrev pub mark_kind : ℕ → Option TokenKind
mark_kind b =
    if b == 40 then Some kind.LeftParen else (if b == 41 then Some kind.RightParen
    else (if b == 123 then Some kind.LeftBrace else (if b == 125 then Some kind.RightBrace
    else (if b == 91 then Some kind.LeftBracket else (if b == 93 then Some kind.RightBracket
    else (if b == 60 then Some kind.Less else (if b == 62 then Some kind.Greater
    else (if b == 44 then Some kind.Comma else (if b == 58 then Some kind.Colon
    else (if b == 59 then Some kind.Semicolon else (if b == 61 then Some kind.Equal
    else (if b == 46 then Some kind.Dot else None))))))))))))

-- the kind of a mark of two bytes
abbrev pub pair_kind : ℕ → ℕ → Option TokenKind
pair_kind b next =
    if b == 91 && next == 123 then Some kind.CppBody
    else (if b == 45 && next == 62 then Some kind.Arrow
    else (if b == 61 && next == 62 then Some kind.FatArrow else None))

-- whether the text begins with `#include`
abbrev pub is_include : List ℕ → Bool
is_include s = bytes_eq (codes "#include") (take 8 s)

abbrev pub mark : ℕ → List ℕ → Outcome
mark at s =
    if is_include s then token kind.Include at 8
    else option_map_or (λ k. token k at 2) (pair_kind (slice_index s 0) (slice_index s 1))
    (option_map_or (λ k. token k at 1) (mark_kind (slice_index s 0)) (Err (BadByte at)))

-- the token at the front of a text that stands at this place
abbrev pub first_token : ℕ → List ℕ → Outcome
first_token at [] = token kind.End at 0
first_token at (b ∷ s) =
    if is_word_start b then token kind.Word at (1 + prefix_len (is_in class.Name) s)
    else (if is_digit b then token kind.Integer at (1 + prefix_len (is_in class.Digit) s)
    else (if b == 34 then string at (b ∷ s) else mark at (b ∷ s)))

-- the token at a place
unfoldable pub token_at : List ℕ → ℕ → Outcome
token_at bytes at = first_token (at + gap_len (drop at bytes)) (drop (at + gap_len (drop at bytes)) bytes)
