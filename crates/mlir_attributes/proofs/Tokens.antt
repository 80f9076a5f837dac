-- What reading a token says.
use Rattle.std.proofs.Common.{◌≡◌, ◌≢◌, ℕ, ◌+◌, ◌<◌, ◌≤◌, Bool, true, false, cond, List, length, drop, refl, ap, sym, subst, ◌∙◌, arith, Result, Ok, Err, inl, inr}
use Rattle.std.specs.Prelude.{Option, Some, None}
use denote.Enum.Bare.{same_true, same_false, true_same, false_same}
use Rattle.text_scan.specs.Gaps.{gap_len}
use Rattle.text_scan.proofs.GapLaws.{gap_is_longest}
use Rattle.mlir_lexer.specs.contracts.token.TokenKind.{the_type}
use Rattle.mlir_lexer.specs.declared.token.Token.{Token}
use Rattle.mlir_lexer.specs.declared.token.TokenKind.{TokenKind}
use Rattle.mlir_lexer.specs.declared.token.TokenKind.TheVariants as k
use Rattle.mlir_lexer.specs.declared.token.LexFault.{LexFault}
use Rattle.mlir_lexer.specs.Scan.{token_at}
use Rattle.mlir_lexer.specs.Tokens.{IsToken}
use Rattle.mlir_lexer.proofs.Places.{token_is, token_only, goes_on}
use Rattle.mlir_attributes.specs.Place.{Place, left, kind, kind_by, sees, is_kind_by, spelling, spelling_by, next, next_by}
use Rattle.mlir_attributes.specs.Input.{Outcome, Parser, and_then, after, expect, refuse}
use Rattle.mlir_attributes.specs.Grammar.{IsSpelled, IsMark, IsNot}

-- ---- outcomes

-- what went before an `Ok`
pub bind_ok : {A B : Type 0} (o : Outcome A) (f : A → Parser B) (b : B) (r : Place) → and_then o f ≡ Ok (b, r) → (a : A) × (s : Place) × (o ≡ Ok (a, s)) × (f a s ≡ Ok (b, r))
bind_ok (Ok p) f b r h = (p.0, p.1, refl, h)
bind_ok (Err e) f b r h = absurd (cc)

abbrev or_else : {A : Type 0} → Outcome A → A × Place → A × Place
or_else (Ok p) q = p
or_else (Err e) q = q

abbrev pub done : {A : Type 0} → A → Place → Outcome A
done a s = Ok (a, s)

pub same_ok : {A : Type 0} {a b : A} {s r : Place} → done a s ≡ done b r → (a ≡ b) × (s ≡ r)
same_ok {A} {a} {b} {s} {r} e = (ap (λ o. (or_else o (a, s)).0) e, ap (λ o. (or_else o (a, s)).1) e)

-- ---- the lexer's token

pub token_stands : (bytes : List ℕ) (at : ℕ) (t : Token) → at ≤ length bytes → token_at bytes at ≡ Ok t → IsToken bytes at t
unfolding token_at
token_stands bytes at t within e = token_is bytes at (at + gap_len (drop at bytes)) t (gap_is_longest bytes at (at + gap_len (drop at bytes)) within refl) e

pub token_reads : (bytes : List ℕ) (at : ℕ) (t : Token) → IsToken bytes at t → token_at bytes at ≡ Ok t
unfolding token_at
token_reads bytes at t h =
    let within : at ≤ length bytes = omega (arith, h.gap.in_order, h.gap.within) in
    token_only bytes at (at + gap_len (drop at bytes)) t (gap_is_longest bytes at (at + gap_len (drop at bytes)) within refl) h

-- the place lies in its text
abbrev pub IsWithin : Place → Type 0
IsWithin s = s.at ≤ length s.bytes

-- ---- a token that was seen

seen_by : (j : TokenKind) (s : Place) (o : Result Token LexFault) → token_at s.bytes s.at ≡ o → is_kind_by j o ≡ true → IsWithin s → IsSpelled j (spelling_by s.bytes o) s (next_by s o) × IsWithin (next_by s o)
seen_by j s (Ok t) e h within =
    let stands = token_stands s.bytes s.at t within e in
    (record { token = t; stands = stands; kind = same_true the_type tt t.kind j h; text_is = refl; rest = refl }, (goes_on s.bytes s.at t stands).2)
seen_by j s (Err f) e h within = absurd (cc)

-- a token that is taken
pub taken : (j : TokenKind) (s : Place) → IsWithin s → sees j s ≡ true → IsSpelled j (spelling s) s (next s) × IsWithin (next s)
unfolding sees spelling next
taken j s within h = seen_by j s (token_at s.bytes s.at) refl h within

kind_seen : (j : TokenKind) (o : Result Token LexFault) → kind_by o ≡ Some j → is_kind_by j o ≡ true
kind_seen j (Ok t) e = true_same the_type t.kind j (ap (kind_or t.kind) e)
  where
    kind_or : TokenKind → Option TokenKind → TokenKind
    kind_or i None = i
    kind_or i (Some j) = j
kind_seen j (Err f) e = absurd (cc)

pub kind_sees : (j : TokenKind) (s : Place) → kind s ≡ Some j → sees j s ≡ true
unfolding kind sees
kind_sees j s e = kind_seen j (token_at s.bytes s.at) e

-- no such token
pub not_seen : (j : TokenKind) (s : Place) → sees j s ≡ false → IsNot j s
unfolding sees
not_seen j s h t stands = same_false the_type t.kind j (sym (ap (is_kind_by j) (token_reads s.bytes s.at t stands)) ∙ h)

pub after_at : (j : TokenKind) (s : Place) (b : Bool) → sees j s ≡ b → after j s ≡ cond b (next s) s
unfolding after
after_at j s b h = ap (λ c. cond c (next s) s) h

pub eaten : (j : TokenKind) (s : Place) → IsWithin s → sees j s ≡ true → IsMark j s (after j s) × IsWithin (after j s)
eaten j s within h =
    let is = taken j s within h in
    let same : next s ≡ after j s = sym (after_at j s true h) in
    ((spelling s, subst (IsSpelled j (spelling s) s) same is.0), subst IsWithin same is.1)

pub left_alone : (j : TokenKind) (s : Place) → sees j s ≡ false → after j s ≡ s
left_alone j s h = after_at j s false h

expect_by : (j : TokenKind) (s r : Place) (u : Unit {0}) (b : Bool) → sees j s ≡ b → cond b (Ok (tt, next s)) (refuse s) ≡ Ok (u, r) → IsWithin s → IsMark j s r × IsWithin r
expect_by j s r u true h e within =
    let is = taken j s within h in
    let same = (same_ok e).1 in
    ((spelling s, subst (IsSpelled j (spelling s) s) same is.0), subst IsWithin same is.1)
expect_by j s r u false h e within = absurd (cc)

pub expected : (j : TokenKind) (s r : Place) (u : Unit {0}) → IsWithin s → expect j s ≡ Ok (u, r) → IsMark j s r × IsWithin r
unfolding expect
expected j s r u within e = expect_by j s r u (sees j s) refl e within

-- ---- a token that stands there

pub spelled_within : (j : TokenKind) (text : List ℕ) (s r : Place) → IsSpelled j text s r → IsWithin r
spelled_within j text s r h = subst IsWithin h.rest (goes_on s.bytes s.at h.token h.stands).2

pub spelled_sees : (j : TokenKind) (text : List ℕ) (s r : Place) → IsSpelled j text s r → sees j s ≡ true
unfolding sees
spelled_sees j text s r h = ap (is_kind_by j) (token_reads s.bytes s.at h.token h.stands) ∙ true_same the_type h.token.kind j h.kind

pub spelled_kind : (j : TokenKind) (text : List ℕ) (s r : Place) → IsSpelled j text s r → kind s ≡ Some j
unfolding kind
spelled_kind j text s r h = ap kind_by (token_reads s.bytes s.at h.token h.stands) ∙ ap Some h.kind

pub spelled_text : (j : TokenKind) (text : List ℕ) (s r : Place) → IsSpelled j text s r → spelling s ≡ text
unfolding spelling
spelled_text j text s r h = ap (spelling_by s.bytes) (token_reads s.bytes s.at h.token h.stands) ∙ h.text_is

pub spelled_next : (j : TokenKind) (text : List ℕ) (s r : Place) → IsSpelled j text s r → next s ≡ r
unfolding next
spelled_next j text s r h = ap (next_by s) (token_reads s.bytes s.at h.token h.stands) ∙ h.rest

unseen_by : (j : TokenKind) (s : Place) (o : Result Token LexFault) → token_at s.bytes s.at ≡ o → IsWithin s → IsNot j s → is_kind_by j o ≡ false
unseen_by j s (Ok t) e within h = false_same the_type tt t.kind j (h t (token_stands s.bytes s.at t within e))
unseen_by j s (Err f) e within h = refl

pub unseen : (j : TokenKind) (s : Place) → IsWithin s → IsNot j s → sees j s ≡ false
unfolding sees
unseen j s within h = unseen_by j s (token_at s.bytes s.at) refl within h

pub expects : (j : TokenKind) (text : List ℕ) (s r : Place) → IsSpelled j text s r → expect j s ≡ Ok (tt, r)
unfolding expect
expects j text s r h = rw (spelled_sees j text s r h, spelled_next j text s r h) refl

-- another kind of token stands there
pub other_token : (i j : TokenKind) (text : List ℕ) (s r : Place) → IsSpelled i text s r → i ≢ j → IsNot j s
other_token i j text s r h other t stands same =
    other (sym h.kind ∙ ap token_kind (sym (token_reads s.bytes s.at h.token h.stands) ∙ token_reads s.bytes s.at t stands) ∙ same)
  where
    token_kind : Result Token LexFault → TokenKind
    token_kind (Ok u) = u.kind
    token_kind (Err f) = i

-- a token but the end takes a byte
pub spelled_shorter : (j : TokenKind) (text : List ℕ) (s r : Place) → j ≢ k.End → IsSpelled j text s r → left r < left s
spelled_shorter j text s r other h =
    let (from, order, within, some) = goes_on s.bytes s.at h.token h.stands in
    let some_byte : h.token.start < h.token.end = elim some [
      | inl ends ↦ absurd (other (sym h.kind ∙ ends))
      | inr more ↦ more
    ] in
    subst (λ p. left p < left s) h.rest (omega (arith, from, some_byte, within))

other_by : (i j : TokenKind) (o : Result Token LexFault) → kind_by o ≡ Some i → i ≢ j → is_kind_by j o ≡ false
other_by i j (Ok t) e other = false_same the_type tt t.kind j (λ same. other (ap (kind_or i) (sym e) ∙ same))
  where
    kind_or : TokenKind → Option TokenKind → TokenKind
    kind_or i None = i
    kind_or i (Some j) = j
other_by i j (Err f) e other = refl

pub kind_other : (i j : TokenKind) (s : Place) → kind s ≡ Some i → i ≢ j → sees j s ≡ false
unfolding kind sees
kind_other i j s e other = other_by i j (token_at s.bytes s.at) e other

pub eaten_is : (j : TokenKind) (text : List ℕ) (s r : Place) → IsSpelled j text s r → after j s ≡ r
eaten_is j text s r h = after_at j s true (spelled_sees j text s r h) ∙ spelled_next j text s r h

kind_of : (j : TokenKind) (o : Result Token LexFault) → is_kind_by j o ≡ true → kind_by o ≡ Some j
kind_of j (Ok t) h = ap Some (same_true the_type tt t.kind j h)
kind_of j (Err f) h = absurd (cc)

pub sees_kind : (j : TokenKind) (s : Place) → sees j s ≡ true → kind s ≡ Some j
unfolding kind sees
sees_kind j s h = kind_of j (token_at s.bytes s.at) h
