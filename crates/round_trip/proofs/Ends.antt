-- What may stand behind a type or an attribute.
use Rattle.std.proofs.Common.{◌≡◌, ℕ, Bool, true, false, List, [], ◌∷◌, ◌++◌, refl, ap, sym, subst, ◌∙◌, Result, Ok, Err}
use denote.Enum.Bare.{false_same}
use Rattle.text_scan.specs.Bytes.{AllAre, is_space}
use Rattle.text_scan.specs.Gaps.{gap_len}
use Rattle.mlir_lexer.specs.contracts.token.TokenKind.{the_type}
use Rattle.mlir_lexer.specs.Scan.{first_token}
use Rattle.mlir_lexer.specs.declared.token.Token.{Token}
use Rattle.mlir_lexer.specs.declared.token.TokenKind.{TokenKind}
use Rattle.mlir_lexer.specs.declared.token.TokenKind.TheVariants as k
use Rattle.mlir_lexer.specs.declared.token.LexFault.{LexFault}
use Rattle.mlir_attributes.specs.Place.{Place, is_kind_by}
use Rattle.mlir_attributes.specs.Grammar.{IsNot}
use Rattle.round_trip.proofs.Places.{Faces, spaces, lacks}
use Rattle.round_trip.proofs.Tokens.{Stops}

-- a token with which no type and no attribute goes on
abbrev pub is_end : TokenKind → Bool
is_end k.Comma = true
is_end k.RightParen = true
is_end k.RightBracket = true
is_end k.RightBrace = true
is_end k.Value = true
is_end k.String = true
is_end k.End = true
is_end _ = false

abbrev pub is_end_by : Result Token LexFault → Bool
is_end_by (Ok t) = is_end t.kind
is_end_by (Err f) = false

pub record Ends (z : List ℕ) : Type 0 where
  pub stops : Stops z
  pub gap : List ℕ
  pub next : List ℕ
  pub all : AllAre is_space gap
  pub is : z ≡ gap ++ next
  pub no_gap : gap_len next ≡ 0
  pub kind : (at : ℕ) → is_end_by (first_token at next) ≡ true

lacks_by : (j : TokenKind) (o : Result Token LexFault) → is_end j ≡ false → is_end_by o ≡ true → is_kind_by j o ≡ false
lacks_by j (Ok t) other h = false_same the_type tt t.kind j (λ same. let e : true ≡ false = sym h ∙ ap is_end same ∙ other in absurd (cc))
lacks_by j (Err f) other h = refl

-- none of the other tokens stands there
pub ends_lack : (j : TokenKind) (s : Place) (z : List ℕ) → is_end j ≡ false → Ends z → Faces s z → IsNot j s
ends_lack j s z other h f =
    let next = spaces h.gap h.next s h.all (subst (Faces s) h.is f) in
    lacks j s h.next next h.no_gap (λ at. lacks_by j (first_token at h.next) other (h.kind at))

pub comma_ends : (z : List ℕ) → Ends (44 ∷ z)
comma_ends z = record { stops = refl; gap = []; next = 44 ∷ z; all = tt; is = refl; no_gap = refl; kind = λ at. refl }

pub paren_ends : (z : List ℕ) → Ends (41 ∷ z)
paren_ends z = record { stops = refl; gap = []; next = 41 ∷ z; all = tt; is = refl; no_gap = refl; kind = λ at. refl }

pub bracket_ends : (z : List ℕ) → Ends (93 ∷ z)
bracket_ends z = record { stops = refl; gap = []; next = 93 ∷ z; all = tt; is = refl; no_gap = refl; kind = λ at. refl }

pub brace_ends : (z : List ℕ) → Ends (125 ∷ z)
brace_ends z = record { stops = refl; gap = []; next = 125 ∷ z; all = tt; is = refl; no_gap = refl; kind = λ at. refl }

pub text_ends : Ends []
text_ends = record { stops = tt; gap = []; next = []; all = tt; is = refl; no_gap = refl; kind = λ at. refl }
