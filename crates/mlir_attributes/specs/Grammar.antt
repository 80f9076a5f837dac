-- What stands from one place up to another.
use Rattle.std.specs.Prelude.{◌≡◌, ◌≢◌, ℕ, ◌<◌, ◌-◌, List, slice_range, IsTrue, Ok, Some, [], false}
use Rattle.mlir_lexer.specs.Tokens.{IsToken}
use Rattle.mlir_lexer.specs.Body.{end_of_body}
use Rattle.mlir_lexer.specs.declared.token.Token.{Token}
use Rattle.mlir_lexer.specs.declared.token.TokenKind.{TokenKind}
use Rattle.mlir_attributes.specs.declared.aliases.Alias.{Alias}
use Rattle.mlir_attributes.specs.Place.{Place, moved}
use Rattle.mlir_attributes.specs.Aliases.{find}
use Rattle.mlir_attributes.specs.KeptText.{names}
use Rattle.mlir_attributes.specs.Types.{opens_body, max_open, has_room, put_in}

-- A token of this kind and these bytes.
pub record IsSpelled (k : TokenKind) (text : List ℕ) (s r : Place) : Type 0 where
  pub token : Token
  pub stands : IsToken s.bytes s.at token
  pub kind : token.kind ≡ k
  pub text_is : slice_range s.bytes token.start token.end ≡ text
  pub rest : moved s token.end ≡ r

-- A token of this kind.
abbrev pub IsMark : TokenKind → Place → Place → Type 0
IsMark k s r = (text : List ℕ) × IsSpelled k text s r

-- The next token isn't of this kind.
abbrev pub IsNot : TokenKind → Place → Type 0
IsNot k s = (t : Token) → IsToken s.bytes s.at t → t.kind ≢ k

-- A kept body, with its `<` and `>`, where so many brackets may be opened. Its text has the aliases replaced.
pub record IsBody (aliases : List Alias) (room : ℕ) (text : List ℕ) (s r : Place) : Type 0 where
  pub token : Token
  pub stands : IsToken s.bytes s.at token
  pub opens : IsTrue (opens_body s.bytes token.start)
  pub some : 0 < room
  pub end : ℕ
  pub ends : end_of_body s.bytes token.start (max_open - room) ≡ Ok end
  pub put : ℕ
  pub text_is : names aliases room [] false 0 s.put 0 (slice_range s.bytes token.start end) ≡ Ok (text, put)
  pub rest : record s { at = end; put = put } ≡ r

-- The use of this alias, which has room there.
pub record IsUse (aliases : List Alias) (k : TokenKind) (room : ℕ) (a : Alias) (s r : Place) : Type 0 where
  pub name : List ℕ
  pub behind : Place
  pub spelled : IsSpelled k name s behind
  pub defined : find name aliases ≡ Some a
  pub fits : IsTrue (has_room room a behind)
  pub rest : put_in a behind ≡ r
