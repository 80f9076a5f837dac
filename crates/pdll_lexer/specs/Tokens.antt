-- The token at a place, and the faults.
use Rattle.std.specs.Prelude.{◌≡◌, ◌≢◌, ℕ, ◌<◌, ◌≤◌, List, length, slice_index, slice_range, ◌⊎◌, Result, Ok}
use Rattle.text_scan.specs.Longest.{IsLongest}
use Rattle.text_scan.specs.Gaps.{IsGap}
use Rattle.text_scan.specs.Strings.{IsStringAt}
use Rattle.pdll_lexer.specs.Forms.{HasForm, IsTokenText}
use Rattle.pdll_lexer.specs.declared.token.Token.{Token}
use Rattle.pdll_lexer.specs.declared.token.TokenKind.TheVariants as kind
use Rattle.pdll_lexer.specs.declared.token.LexFault.{LexFault}

-- Nothing is left at the token's place.
pub record IsEnd (bytes : List ℕ) (t : Token) : Type 0 where
  pub kind : t.kind ≡ kind.End
  pub start : t.start ≡ length bytes
  pub end : t.end ≡ length bytes

-- The token has the form of its kind, and no longer front of what is left has any form.
pub record IsLongestToken (bytes : List ℕ) (t : Token) : Type 0 where
  pub form : HasForm t.kind (slice_range bytes t.start t.end)
  pub longest : IsLongest IsTokenText bytes t.start t.end

-- The token at a place: behind the longest gap, the longest text of a form, or the end.
pub record IsToken (bytes : List ℕ) (at : ℕ) (t : Token) : Type 0 where
  pub gap : IsLongest IsGap bytes at t.start
  pub token : IsEnd bytes t ⊎ IsLongestToken bytes t

-- Behind the gap stands a quote, and no string begins at it.
pub record IsBadString (bytes : List ℕ) (at place : ℕ) : Type 0 where
  pub gap : IsLongest IsGap bytes at place
  pub quote : slice_index bytes place ≡ 34
  pub broken : (end : ℕ) → ¬ IsStringAt bytes place end

-- Behind the gap something is left that is no quote, and no token begins there.
pub record IsBadByte (bytes : List ℕ) (at place : ℕ) : Type 0 where
  pub gap : IsLongest IsGap bytes at place
  pub inside : place < length bytes
  pub no_token : (end : ℕ) → end ≤ length bytes → ¬ IsTokenText (slice_range bytes place end)
  pub no_quote : slice_index bytes place ≢ 34

-- Where a token is there, it is the answer.
abbrev pub IsOnlyToken : List ℕ → ℕ → Result Token LexFault → Type 0
IsOnlyToken bytes at result = (t : Token) → IsToken bytes at t → result ≡ Ok t
