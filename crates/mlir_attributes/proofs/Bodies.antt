-- Kept bodies end within their text.
use Rattle.std.proofs.Common.{◌∙◌, ◌≡◌, ℕ, zero, suc, ◌+◌, ◌-◌, ◌<◌, ◌≤◌, Bool, true, false, cond, List, [], ◌∷◌, ◌++◌, length, drop, refl, ap, subst, arith, slice_index, length-drop, Result, Ok, Err}
use Rattle.std.specs.Prelude.{slice_range, Option, Some, None, nat_le, ◌==◌, not}
use Rattle.std.specs.Option.{option_map_or}
use Rattle.std.proofs.lemmas.Bool.{and_parts}
use Rattle.std.proofs.lemmas.Bool.Decides.{nat_tests}
use Rattle.text_scan.specs.Strings.{string_end}
use Rattle.mlir_lexer.specs.declared.token.Token.{Token}
use Rattle.mlir_lexer.specs.declared.token.LexFault.{LexFault}
use Rattle.mlir_lexer.specs.declared.body.BodyFault.{BodyFault}
use Rattle.mlir_lexer.specs.declared.body.BodyFault.TheVariants.{Unclosed, TooDeep, BadString}
use Rattle.mlir_lexer.specs.declared.body.Effect.{Effect}
use Rattle.mlir_lexer.specs.declared.body.Effect.TheVariants.{Opens, Closes, Fails, Passes}
use Rattle.mlir_lexer.specs.Body.{body as body_from, by_effect, effect_of, innermost, outer, closer, end_of_body}
use Rattle.mlir_lexer.specs.Scan.{token_at}
use Rattle.mlir_lexer.specs.Tokens.{IsToken}
use Rattle.mlir_lexer.proofs.Places.{goes_on}
use Rattle.mlir_attributes.specs.declared.fault.ModKind.TheVariants as faults
use Rattle.mlir_attributes.specs.declared.aliases.Alias.{Alias}
use Rattle.mlir_attributes.specs.Place.{Place, left, fault}
use Rattle.mlir_attributes.specs.Input.{Outcome, refuse}
use Rattle.mlir_attributes.specs.KeptText.{Names, names}
use Rattle.mlir_attributes.specs.Types.{named_by, opens_body, max_open, body_by, body_at, body, kept}
use Rattle.mlir_attributes.specs.Grammar.{IsBody}
use Rattle.mlir_attributes.proofs.Tokens.{IsWithin, same_ok, token_stands, token_reads, bind_ok}

abbrev or_end : ℕ → Result ℕ BodyFault → ℕ
or_end n (Ok m) = m
or_end n (Err f) = n

-- where what follows a byte ends
abbrev EndsAfter : ℕ → ℕ → List ℕ → ℕ → Type 0
EndsAfter room at s end = (closers : List ℕ) (dash : Bool) (n : ℕ) → body_from room closers dash n (at + 1) s ≡ Ok end → (at < end) × (end ≤ at + 1 + length s)

by_string : (room at end : ℕ) (closers s : List ℕ) (o : Option ℕ) → EndsAfter room at s end
    → option_map_or (λ stop. body_from room closers false (stop - (at + 1)) (at + 1) s) o (Err (BadString at)) ≡ Ok end → (at < end) × (end ≤ at + 1 + length s)
by_string room at end closers s (Some stop) go h = go closers false (stop - (at + 1)) h
by_string room at end closers s None go h = absurd (cc)

by_byte : (room at end b : ℕ) (closers s : List ℕ) (e : Effect) (full last : Bool) → EndsAfter room at s end
    → by_effect e (cond full (Err (TooDeep at)) (body_from room (closer b ∷ closers) (b == 45) 0 (at + 1) s))
    (cond last (Ok (at + 1)) (body_from room (outer closers) (b == 45) 0 (at + 1) s))
    (Err (Unclosed at)) (body_from room closers (b == 45) 0 (at + 1) s) ≡ Ok end → (at < end) × (end ≤ at + 1 + length s)
by_byte room at end b closers s Opens true last go h = absurd (cc)
by_byte room at end b closers s Opens false last go h = go (closer b ∷ closers) (b == 45) 0 h
by_byte room at end b closers s Closes full true go h = let is : at + 1 ≡ end = ap (or_end end) h in (omega (arith, is), omega (arith, is))
by_byte room at end b closers s Closes full false go h = go (outer closers) (b == 45) 0 h
by_byte room at end b closers s Fails full last go h = absurd (cc)
by_byte room at end b closers s Passes full last go h = go closers (b == 45) 0 h

by_quote : (room at end b : ℕ) (closers : List ℕ) (dash : Bool) (s : List ℕ) (q : Bool) → EndsAfter room at s end
    → cond q (option_map_or (λ stop. body_from room closers false (stop - (at + 1)) (at + 1) s) (string_end at (b ∷ s)) (Err (BadString at)))
    (by_effect (effect_of b (slice_index s 0) dash (innermost closers)) (cond (nat_le room (length closers)) (Err (TooDeep at)) (body_from room (closer b ∷ closers) (b == 45) 0 (at + 1) s))
    (cond (nat_le (length closers) 1) (Ok (at + 1)) (body_from room (outer closers) (b == 45) 0 (at + 1) s))
    (Err (Unclosed at)) (body_from room closers (b == 45) 0 (at + 1) s)) ≡ Ok end → (at < end) × (end ≤ at + 1 + length s)
by_quote room at end b closers dash s true go h = by_string room at end closers s (string_end at (b ∷ s)) go h
by_quote room at end b closers dash s false go h = by_byte room at end b closers s (effect_of b (slice_index s 0) dash (innermost closers)) (nat_le room (length closers)) (nat_le (length closers) 1) go h

ends_inside : (room at end n : ℕ) (closers : List ℕ) (dash : Bool) (s : List ℕ) → body_from room closers dash n at s ≡ Ok end → (at < end) × (end ≤ at + length s)
ends_inside room at end n closers dash [] h = absurd (cc)
ends_inside room at end (suc n) closers dash (b ∷ s) h = let go = ends_inside room (at + 1) end n closers false s h in (omega (arith, go.0), omega (arith, go.1))
ends_inside room at end zero closers dash (b ∷ s) h =
    let go : EndsAfter room at s end = (λ cs d n e. let r = ends_inside room (at + 1) end n cs d s e in (omega (arith, r.0), r.1)) in
    let r = by_quote room at end b closers dash s (b == 34) go h in
    (r.0, omega (arith, r.1))

pub end_within : (bytes : List ℕ) (at depth end : ℕ) → at < length bytes → end_of_body bytes at depth ≡ Ok end → (at < end) × (end ≤ length bytes)
end_within bytes at depth end inside h =
    let r = ends_inside (256 - depth) (at + 1) end 0 (62 ∷ []) false (drop (at + 1) bytes) h in
    (omega (arith, r.0), omega (arith, r.1, length-drop (at + 1) bytes))

-- ---- reading a body

pub opens_inside : (bytes : List ℕ) (at : ℕ) → opens_body bytes at ≡ true → at < length bytes
opens_inside bytes at h = inside bytes at (and_parts (slice_index bytes at == 60) (not (slice_index bytes (at + 1) == 61)) h).0
  where
    inside : (bytes : List ℕ) (at : ℕ) → (slice_index bytes at == 60) ≡ true → at < length bytes
    inside [] at e = absurd (cc)
    inside (b ∷ bytes) zero e = omega arith
    inside (b ∷ bytes) (suc at) e = omega (arith, inside bytes at e)

abbrev or_else : {A : Type 0} → Outcome A → A × Place → A × Place
or_else (Ok p) q = p
or_else (Err e) q = q

named_go : (aliases : List Alias) (room : ℕ) (s r : Place) (text : List ℕ) (t : Token) (end : ℕ) (n : Names) → IsToken s.bytes s.at t → opens_body s.bytes t.start ≡ true → 0 < room
    → end_of_body s.bytes t.start (max_open - room) ≡ Ok end → names aliases room [] false 0 s.put 0 (slice_range s.bytes t.start end) ≡ n → named_by s t.start end n ≡ Ok (text, r) → IsBody aliases room text s r × IsWithin r
named_go aliases room s r text t end (Ok p) stands opens some ends named h =
    let same = same_ok h in (
      record { token = t; stands = stands; opens = opens; some = some; end = end; ends = ends; put = p.1; text_is = named ∙ (λ i. Ok (same.0 i, p.1)); rest = same.1 },
      subst IsWithin same.1 (end_within s.bytes t.start (max_open - room) end (opens_inside s.bytes t.start opens) ends).1,
    )
named_go aliases room s r text t end (Err i) stands opens some ends named h = absurd (cc)

ended_by : (aliases : List Alias) (room : ℕ) (s r : Place) (text : List ℕ) (t : Token) (o : Result ℕ BodyFault) → IsToken s.bytes s.at t → opens_body s.bytes t.start ≡ true → 0 < room
    → end_of_body s.bytes t.start (max_open - room) ≡ o → body_by aliases room s t.start o ≡ Ok (text, r) → IsBody aliases room text s r × IsWithin r
ended_by aliases room s r text t (Ok end) stands opens some ends h =
    named_go aliases room s r text t end (names aliases room [] false 0 s.put 0 (slice_range s.bytes t.start end)) stands opens some ends refl h
ended_by aliases room s r text t (Err f) stands opens some ends h = absurd (cc)

room_by : (aliases : List Alias) (room : ℕ) (s r : Place) (text : List ℕ) (t : Token) (b z : Bool) → IsToken s.bytes s.at t → opens_body s.bytes t.start ≡ b → (room == 0) ≡ z
    → cond {A = Outcome (List ℕ)} b (cond z (Err (fault faults.TooMany t.start)) (body_by aliases room s t.start (end_of_body s.bytes t.start (max_open - room)))) (refuse s) ≡ Ok (text, r) → IsBody aliases room text s r × IsWithin r
room_by aliases room s r text t true true stands opens none h = absurd (cc)
room_by aliases room s r text t true false stands opens some h =
    ended_by aliases room s r text t (end_of_body s.bytes t.start (max_open - room)) stands opens (positive room some) refl h
  where
    positive : (n : ℕ) → (n == 0) ≡ false → 0 < n
    positive zero e = absurd (cc)
    positive (suc n) e = omega arith
room_by aliases room s r text t false z stands opens some h = absurd (cc)

token_by : (aliases : List Alias) (room : ℕ) (s r : Place) (text : List ℕ) (o : Result Token LexFault) → IsWithin s → token_at s.bytes s.at ≡ o → body_at aliases room s o ≡ Ok (text, r) → IsBody aliases room text s r × IsWithin r
token_by aliases room s r text (Ok t) within e h = room_by aliases room s r text t (opens_body s.bytes t.start) (room == 0) (token_stands s.bytes s.at t within e) refl refl h
token_by aliases room s r text (Err f) within e h = absurd (cc)

-- a body that is read is one
pub body_sound : (aliases : List Alias) (room : ℕ) (s r : Place) (text : List ℕ) → IsWithin s → body aliases room s ≡ Ok (text, r) → IsBody aliases room text s r × IsWithin r
unfolding body
body_sound aliases room s r text within h = token_by aliases room s r text (token_at s.bytes s.at) within refl h

-- a body that stands there is read
pub body_complete : (aliases : List Alias) (room : ℕ) (s r : Place) (text : List ℕ) → IsBody aliases room text s r → body aliases room s ≡ Ok (text, r)
unfolding body
body_complete aliases room s r text h =
    let none : (room == 0) ≡ false = zero_not room h.some in
    rw (token_reads s.bytes s.at h.token h.stands, h.opens, none, h.ends, h.text_is, h.rest) refl
  where
    zero_not : (n : ℕ) → 0 < n → (n == 0) ≡ false
    zero_not zero some = absurd (omega arith)
    zero_not (suc n) some = grind (arith, nat_tests)

pub kept_sound : (aliases : List Alias) (front : List ℕ) (room : ℕ) (s r : Place) (text : List ℕ) → IsWithin s → kept aliases front room s ≡ Ok (text, r) → (back : List ℕ) × IsBody aliases room back s r × (front ++ back ≡ text) × IsWithin r
unfolding kept
kept_sound aliases front room s r text within h =
    let one = bind_ok (body aliases room s) _ text r h in
    let same = same_ok one.3 in
    let is = body_sound aliases room s one.1 one.0 within one.2 in
    (one.0, subst (IsBody aliases room one.0 s) same.1 is.0, same.0, subst IsWithin same.1 is.1)

pub kept_complete : (aliases : List Alias) (front back : List ℕ) (room : ℕ) (s r : Place) → IsBody aliases room back s r → kept aliases front room s ≡ Ok (front ++ back, r)
unfolding kept
kept_complete aliases front back room s r h = rw (body_complete aliases room s r back h) refl

pub body_within : (aliases : List Alias) (room : ℕ) (s r : Place) (text : List ℕ) → IsBody aliases room text s r → IsWithin r
body_within aliases room s r text h = subst IsWithin h.rest (end_within s.bytes h.token.start (max_open - room) h.end (opens_inside s.bytes h.token.start h.opens) h.ends).1

pub body_shorter : (aliases : List Alias) (room : ℕ) (s r : Place) (text : List ℕ) → IsBody aliases room text s r → left r < left s
body_shorter aliases room s r text h =
    let end = end_within s.bytes h.token.start (max_open - room) h.end (opens_inside s.bytes h.token.start h.opens) h.ends in
    let from = (goes_on s.bytes s.at h.token h.stands).0 in
    subst (λ p. left p < left s) h.rest (omega (arith, end.0, end.1, from))
