-- Which token stands behind a part of an operation that may be left out.
use Rattle.std.proofs.Common.{◌≡◌, ℕ, Bool, true, false, List, [], ◌∷◌, ◌++◌, refl, ap, sym, subst, ◌∙◌, Result, Ok, Err}
use denote.Enum.Bare.{false_same}
use Rattle.text_scan.specs.Bytes.{AllAre, is_space}
use Rattle.text_scan.specs.Gaps.{gap_len}
use Rattle.mlir_lexer.specs.contracts.token.TokenKind.{the_type}
use Rattle.mlir_lexer.specs.Scan.{first_token}
use Rattle.mlir_lexer.specs.declared.token.Token.{Token}
use Rattle.mlir_lexer.specs.declared.token.TokenKind.{TokenKind}
use Rattle.mlir_lexer.specs.declared.token.TokenKind.TheVariants as k
use Rattle.mlir_lexer.specs.declared.token.LexFault.{LexFault}
use Rattle.mlir_attributes.specs.Place.{Place, is_kind_by}
use Rattle.mlir_attributes.specs.Grammar.{IsNot}
use Rattle.round_trip.proofs.Places.{Faces, spaces, lacks}

-- what stands behind the regions, behind the properties, behind the operands
abbrev pub is_tail : TokenKind → Bool
is_tail k.Colon = true
is_tail k.LeftBrace = true
is_tail _ = false

abbrev pub is_region : TokenKind → Bool
is_region k.Colon = true
is_region k.LeftBrace = true
is_region k.LeftParen = true
is_region _ = false

abbrev pub is_property : TokenKind → Bool
is_property k.Colon = true
is_property k.LeftBrace = true
is_property k.LeftParen = true
is_property k.Less = true
is_property _ = false

abbrev pub passes : (TokenKind → Bool) → Result Token LexFault → Bool
passes test (Ok t) = test t.kind
passes test (Err f) = false

-- Behind spaces stands a token of such a kind.
pub record Next (test : TokenKind → Bool) (z : List ℕ) : Type 0 where
  pub gap : List ℕ
  pub next : List ℕ
  pub all : AllAre is_space gap
  pub is : z ≡ gap ++ next
  pub no_gap : gap_len next ≡ 0
  pub kind : (at : ℕ) → passes test (first_token at next) ≡ true

lacks_by : (test : TokenKind → Bool) (j : TokenKind) (o : Result Token LexFault) → test j ≡ false → passes test o ≡ true → is_kind_by j o ≡ false
lacks_by test j (Ok t) other h = false_same the_type tt t.kind j (λ same. let e : true ≡ false = sym h ∙ ap test same ∙ other in absurd (cc))
lacks_by test j (Err f) other h = refl

pub next_lacks : (test : TokenKind → Bool) (j : TokenKind) (s : Place) (z : List ℕ) → test j ≡ false → Next test z → Faces s z → IsNot j s
next_lacks test j s z other h f =
    lacks j s h.next (spaces h.gap h.next s h.all (subst (Faces s) h.is f)) h.no_gap (λ at. lacks_by test j (first_token at h.next) other (h.kind at))

up_region : (j : TokenKind) → is_tail j ≡ true → is_region j ≡ true
up_region k.Colon h = refl
up_region k.LeftBrace h = refl
up_region _ h = absurd (cc)

up_property : (j : TokenKind) → is_region j ≡ true → is_property j ≡ true
up_property k.Colon h = refl
up_property k.LeftBrace h = refl
up_property k.LeftParen h = refl
up_property _ h = absurd (cc)

wider : (p q : TokenKind → Bool) (o : Result Token LexFault) → ((j : TokenKind) → p j ≡ true → q j ≡ true) → passes p o ≡ true → passes q o ≡ true
wider p q (Ok t) up h = up t.kind h
wider p q (Err f) up h = absurd (cc)

weaker : (p q : TokenKind → Bool) (z : List ℕ) → ((j : TokenKind) → p j ≡ true → q j ≡ true) → Next p z → Next q z
weaker p q z up h = record { gap = h.gap; next = h.next; all = h.all; is = h.is; no_gap = h.no_gap; kind = λ at. wider p q (first_token at h.next) up (h.kind at) }

pub tail_region : (z : List ℕ) → Next is_tail z → Next is_region z
tail_region z h = weaker is_tail is_region z up_region h

pub region_property : (z : List ℕ) → Next is_region z → Next is_property z
region_property z h = weaker is_region is_property z up_property h

pub colon_next : (z : List ℕ) → Next is_tail (32 ∷ 58 ∷ 32 ∷ z)
colon_next z = record { gap = 32 ∷ []; next = 58 ∷ 32 ∷ z; all = (refl, tt); is = refl; no_gap = refl; kind = λ at. refl }

pub brace_next : (z : List ℕ) → Next is_tail (32 ∷ 123 ∷ z)
brace_next z = record { gap = 32 ∷ []; next = 123 ∷ z; all = (refl, tt); is = refl; no_gap = refl; kind = λ at. refl }

pub paren_next : (z : List ℕ) → Next is_region (32 ∷ 40 ∷ z)
paren_next z = record { gap = 32 ∷ []; next = 40 ∷ z; all = (refl, tt); is = refl; no_gap = refl; kind = λ at. refl }

pub less_next : (z : List ℕ) → Next is_property (32 ∷ 60 ∷ z)
less_next z = record { gap = 32 ∷ []; next = 60 ∷ z; all = (refl, tt); is = refl; no_gap = refl; kind = λ at. refl }
