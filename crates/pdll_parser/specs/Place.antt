-- Places of a text, and the token at a place.
use Rattle.std.specs.Prelude.{ℕ, ◌-◌, Bool, if◌then◌else◌, List, [], length, slice_range, Result, Ok, Err}
use denote.Enum.Bare.{sameb}
use Rattle.pdll_lexer.specs.declared.token.Token.{Token}
use Rattle.pdll_lexer.specs.declared.token.LexFault.{LexFault}
use Rattle.pdll_lexer.specs.declared.token.LexFault.TheVariants as lex
use Rattle.pdll_lexer.specs.Scan.{token_at}
use Rattle.pdll_parser.specs.contracts.terminal.Terminal.{the_type}
use Rattle.pdll_parser.specs.declared.terminal.Terminal.{Terminal}
use Rattle.pdll_parser.specs.declared.terminal.Terminal.TheVariants as t
use Rattle.pdll_parser.specs.Terminals.{terminal_of}

-- a text, and how far it was read
pub record Place : Type 0 where
  pub bytes : List ℕ
  pub at : ℕ

abbrev pub at_place : List ℕ → ℕ → Place
at_place bytes at = record { bytes = bytes; at = at }

abbrev pub Lexed : Type 0
Lexed = Result Token LexFault

abbrev pub lexed_terminal : List ℕ → Lexed → Terminal
lexed_terminal bytes (Ok token) = terminal_of token.kind (slice_range bytes token.start token.end)
lexed_terminal bytes (Err e) = t.Bad

abbrev pub lexed_text : List ℕ → Lexed → List ℕ
lexed_text bytes (Ok token) = slice_range bytes token.start token.end
lexed_text bytes (Err e) = []

abbrev pub lexed_start : Lexed → ℕ
lexed_start (Ok token) = token.start
lexed_start (Err (lex.BadByte at)) = at
lexed_start (Err (lex.BadString at)) = at

abbrev pub behind : Place → Lexed → Place
behind s (Ok token) = at_place s.bytes token.end
behind s (Err e) = s

abbrev pub lexed : Place → Lexed
lexed s = token_at s.bytes s.at

-- what the token there is for the grammar
unfoldable pub terminal : Place → Terminal
terminal s = lexed_terminal s.bytes (lexed s)

-- the text of the token there
unfoldable pub spelling : Place → List ℕ
spelling s = lexed_text s.bytes (lexed s)

-- where the token there begins
unfoldable pub start : Place → ℕ
start s = lexed_start (lexed s)

-- the place behind the token there
unfoldable pub next : Place → Place
next s = behind s (lexed s)

-- how many bytes are left
abbrev pub left : Place → ℕ
left s = length s.bytes - s.at

unfoldable pub same : Terminal → Terminal → Bool
same = sameb the_type

-- whether this stands there
unfoldable pub sees : Terminal → Place → Bool
sees x s = same (terminal s) x

-- behind this, where it stands there
unfoldable pub after : Terminal → Place → Place
after x s = if sees x s then next s else s
