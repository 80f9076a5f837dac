-- Laws of the tokens.
use Rattle.std.specs.Prelude.{◌≡◌, ◌≢◌, ◌↔◌, ℕ, ◌<◌, ◌≤◌, List, length, Ok}
use Rattle.pdll_lexer.specs.Scan.{token_at}
use Rattle.pdll_lexer.specs.Tokens.{IsToken}
use Rattle.pdll_lexer.specs.declared.token.Token.{Token}
use Rattle.pdll_lexer.specs.declared.token.TokenKind.TheVariants as kind
use Rattle.pdll_lexer.specs.declared.token.LexFault.{LexFault}
use Rattle.pdll_lexer.specs.declared.token.LexFault.TheVariants.{BadByte, BadString}

-- What the scan computes is the token there, and no other.
abbrev pub TokensAreTold : Type 0
TokensAreTold = (bytes : List ℕ) (at : ℕ) (t : Token) → at ≤ length bytes → (token_at bytes at ≡ Ok t) ↔ IsToken bytes at t

-- A token but the end has a byte, and lies within the text.
abbrev pub TokensGoOn : Type 0
TokensGoOn = (bytes : List ℕ) (at : ℕ) (t : Token) → token_at bytes at ≡ Ok t → t.kind ≢ kind.End → (at < t.end) × (t.end ≤ length bytes)

abbrev pub place_of : LexFault → ℕ
place_of (BadByte at) = at
place_of (BadString at) = at
