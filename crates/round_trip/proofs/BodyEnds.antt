-- A kept body that ends in a text ends there alone.
use Rattle.std.proofs.Common.{◌≡◌, ℕ, zero, suc, ◌+◌, ◌-◌, ◌<◌, ◌≤◌, Bool, true, false, cond, not, List, [], ◌∷◌, ◌++◌, length, take, refl, ap, ◌∙◌, arith, inl, inr, eqb-true, Result, Ok, Err}
use Rattle.std.specs.Prelude.{◌==◌, ◌&&◌, ◌||◌, nat_le, slice_index, Option, Some, None}
use Rattle.std.specs.Option.{option_map_or}
use Rattle.std.proofs.lemmas.Bool.{and_parts, or_cases}
use Rattle.std.proofs.lemmas.Bool.Decides.{nat_tests}
use Rattle.text_scan.specs.Strings.{string_end}
use Rattle.text_scan.proofs.StringLaws.{string_covers, string_front}
use Rattle.mlir_lexer.specs.Body.{body, by_effect, effect_of, innermost, outer, closer, must_close}
use Rattle.mlir_lexer.specs.declared.body.Effect.{Effect}
use Rattle.mlir_lexer.specs.declared.body.Effect.TheVariants.{Opens, Closes, Fails, Passes}
use Rattle.mlir_lexer.specs.declared.body.BodyFault.{BodyFault}
use Rattle.mlir_lexer.specs.declared.body.BodyFault.TheVariants.{Unclosed, TooDeep, BadString}
use Rattle.round_trip.proofs.Bodies.{some_string}

abbrev End : Type 0
End = Result ℕ BodyFault

abbrev ends : ℕ → End
ends n = Ok n

abbrev or_end : ℕ → End → ℕ
or_end n (Ok m) = m
or_end n (Err f) = n

-- Behind its byte `last` the body ends, in whatever text it stands.
pub record Alone (room : ℕ) (closers : List ℕ) (dash : Bool) (n at : ℕ) (s : List ℕ) (e : ℕ) : Type 0 where
  pub last : ℕ
  pub is : e ≡ at + suc last
  pub inside : last < length s
  pub past : n ≤ last
  pub low : slice_index s last < 128
  pub alone : (other : ℕ) → body room closers dash n other (take (suc last) s) ≡ Ok (other + suc last)

-- ---- strings

take_past : (front rest : List ℕ) (m : ℕ) → length front ≤ m → take m (front ++ rest) ≡ front ++ take (m - length front) rest
take_past [] rest m le = ap (λ n. take n rest) (let e : m ≡ m - 0 = omega arith in e)
take_past (b ∷ front) rest zero le = absurd (omega arith)
take_past (b ∷ front) rest (suc m) le = ap (λ t. b ∷ t) (take_past front rest m (omega arith) ∙ ap (λ n. front ++ take n rest) (let e : m - length front ≡ suc m - length (b ∷ front) = omega arith in e))

-- the string at the front ends alone too, in a part that holds it
record Within (at : ℕ) (s : List ℕ) (end : ℕ) : Type 0 where
  count : ℕ
  some : 0 < count
  is : end ≡ at + count
  again : (other m : ℕ) → count ≤ m → string_end other (take m s) ≡ Some (other + count)

string_within : (at : ℕ) (s : List ℕ) (end : ℕ) → string_end at s ≡ Some end → Within at s end
string_within at s end h =
    let (front, rest, is, e, len) = string_front s at end h in
    record {
      count = length front;
      some = some_string front is;
      is = len;
      again = λ other m le. ap (λ t. string_end other (take m t)) e ∙ ap (string_end other) (take_past front rest m le) ∙ string_covers front (take (m - length front) rest) other is;
    }

-- ---- bytes

low_close : (c inner : ℕ) (dash : Bool) → ((must_close c || (c == 62 && not dash)) && inner == c) ≡ true → (c < 128) × ((c == 60) ≡ false)
low_close c inner dash h =
    elim (or_cases (must_close c) (c == 62 && not dash) (and_parts (must_close c || (c == 62 && not dash)) (inner == c) h).0) [
      | inl is ↦ (grind (arith, nat_tests), grind (arith, nat_tests))
      | inr is ↦ let e : c ≡ 62 = eqb-true c 62 (and_parts (c == 62) (not dash) is).0 in (omega (arith, e), rw e refl)
    ]

closing_by : (c : ℕ) (p q : Bool) (close fail : Bool) → cond ((c == 60 && p) || q) Opens (cond close Closes (cond fail Fails Passes)) ≡ Closes → (close ≡ true) × (q ≡ false)
closing_by c p q close fail h = by_open (c == 60 && p) q close fail h
  where
    by_open : (a q close fail : Bool) → cond (a || q) Opens (cond close Closes (cond fail Fails Passes)) ≡ Closes → (close ≡ true) × (q ≡ false)
    by_open true q close fail h = absurd (cc)
    by_open false true close fail h = absurd (cc)
    by_open false false true fail h = (refl, refl)
    by_open false false false true h = absurd (cc)
    by_open false false false false h = absurd (cc)

-- a byte that closes does so before any byte
closes_alone : (c next inner : ℕ) (dash : Bool) → effect_of c next dash inner ≡ Closes → (effect_of c 0 dash inner ≡ Closes) × (c < 128)
closes_alone c next inner dash h =
    let close = (must_close c || (c == 62 && not dash)) && inner == c in
    let other = c == 40 || (c == 91 || c == 123) in
    let parts = closing_by c (not (next == 61)) other close (must_close c) h in
    let low = low_close c inner dash parts.0 in
    ((λ j. cond ((low.1 j && true) || parts.1 j) Opens (cond (parts.0 j) Closes (cond (must_close c) Fails Passes))), low.0)

module _ (room : ℕ) where
  abbrev Goes : ℕ → List ℕ → ℕ → Type 0
  Goes at s e = (closers : List ℕ) (dash : Bool) (n : ℕ) → body room closers dash n (at + 1) s ≡ ends e → Alone room closers dash n (at + 1) s e

  abbrev step_of : ℕ → ℕ → List ℕ → List ℕ → Effect → Bool → Bool → End
  step_of at c closers s e full last =
      by_effect e (cond full (Err (TooDeep at)) (body room (closer c ∷ closers) (c == 45) 0 (at + 1) s))
      (cond last (ends (at + 1)) (body room (outer closers) (c == 45) 0 (at + 1) s))
      (Err (Unclosed at)) (body room closers (c == 45) 0 (at + 1) s)

  -- what is asked of a byte outside strings
  abbrev Next : ℕ → ℕ → List ℕ → List ℕ → Bool → ℕ → Type 0
  Next at c closers s dash e = (c == 34) ≡ false → Alone room closers dash 0 at (c ∷ s) e

  first_kept : (s : List ℕ) (k : ℕ) → slice_index (take (suc k) s) 0 ≡ slice_index s 0
  first_kept [] k = refl
  first_kept (d ∷ s) k = refl

  -- the scan goes on behind the byte
  further : (at c : ℕ) (closers more : List ℕ) (s : List ℕ) (dash : Bool) (e : ℕ) (a : Alone room more (c == 45) 0 (at + 1) s e)
      → ((other : ℕ) (t : List ℕ) → slice_index t 0 ≡ slice_index s 0 → (c == 34) ≡ false → body room closers dash 0 other (c ∷ t) ≡ body room more (c == 45) 0 (other + 1) t) → Next at c closers s dash e
  further at c closers more s dash e a step other_byte = record {
    last = suc a.last;
    is = omega (arith, a.is);
    inside = omega (arith, a.inside);
    past = omega arith;
    low = a.low;
    alone = λ other. step other (take (suc a.last) s) (first_kept s a.last) other_byte ∙ a.alone (other + 1) ∙ ap ends (let e : (other + 1) + suc a.last ≡ other + suc (suc a.last) = omega arith in e);
  }

  step_is : (c : ℕ) (closers s : List ℕ) (dash : Bool) (at : ℕ) → (c == 34) ≡ false → body room closers dash 0 at (c ∷ s) ≡ step_of at c closers s (effect_of c (slice_index s 0) dash (innermost closers)) (nat_le room (length closers)) (nat_le (length closers) 1)
  step_is c closers s dash at h = rw h refl

  byte_by : (at c : ℕ) (closers s : List ℕ) (dash : Bool) (e : ℕ) (effect : Effect) (full last : Bool) → effect_of c (slice_index s 0) dash (innermost closers) ≡ effect → nat_le room (length closers) ≡ full → nat_le (length closers) 1 ≡ last
      → Goes at s e → step_of at c closers s effect full last ≡ ends e → Next at c closers s dash e
  byte_by at c closers s dash e Opens true last is f l go h = absurd (cc)
  byte_by at c closers s dash e Opens false last is f l go h =
      further at c closers (closer c ∷ closers) s dash e (go (closer c ∷ closers) (c == 45) 0 h)
      (λ other t first byte. step_is c closers t dash other byte ∙ ap (λ x. step_of other c closers t (effect_of c x dash (innermost closers)) (nat_le room (length closers)) (nat_le (length closers) 1)) first ∙ rw (is, f) refl)
  byte_by at c closers s dash e Closes full true is f l go h = λ byte.
      let alone = closes_alone c (slice_index s 0) (innermost closers) dash is in
      let same : at + 1 ≡ e = ap (or_end 0) h in
      record {
        last = 0;
        is = omega (arith, same);
        inside = omega arith;
        past = omega arith;
        low = alone.1;
        alone = λ other. step_is c closers [] dash other byte ∙ rw (alone.0, l) refl;
      }
  byte_by at c closers s dash e Closes full false is f l go h =
      further at c closers (outer closers) s dash e (go (outer closers) (c == 45) 0 h)
      (λ other t first byte. step_is c closers t dash other byte ∙ ap (λ x. step_of other c closers t (effect_of c x dash (innermost closers)) (nat_le room (length closers)) (nat_le (length closers) 1)) first ∙ rw (is, l) refl)
  byte_by at c closers s dash e Fails full last is f l go h = absurd (cc)
  byte_by at c closers s dash e Passes full last is f l go h =
      further at c closers closers s dash e (go closers (c == 45) 0 h)
      (λ other t first byte. step_is c closers t dash other byte ∙ ap (λ x. step_of other c closers t (effect_of c x dash (innermost closers)) (nat_le room (length closers)) (nat_le (length closers) 1)) first ∙ rw is refl)

  abbrev string_step : ℕ → List ℕ → List ℕ → Option ℕ → End
  string_step at closers s o = option_map_or (λ end. body room closers false (end - (at + 1)) (at + 1) s) o (Err (BadString at))

  quote_by : (at c : ℕ) (closers s : List ℕ) (dash : Bool) (e : ℕ) (o : Option ℕ) → (c == 34) ≡ true → string_end at (c ∷ s) ≡ o → Goes at s e → string_step at closers s o ≡ ends e → Alone room closers dash 0 at (c ∷ s) e
  quote_by at c closers s dash e None quote is go h = absurd (cc)
  quote_by at c closers s dash e (Some end) quote is go h =
      let w = string_within at (c ∷ s) end is in
      let a = go closers false (end - (at + 1)) h in
      let skip : end - (at + 1) ≡ w.count - 1 = omega (arith, w.is, w.some) in
      record {
        last = suc a.last;
        is = omega (arith, a.is);
        inside = omega (arith, a.inside);
        past = omega arith;
        low = a.low;
        alone = λ other.
            let there : (other + w.count) - (other + 1) ≡ end - (at + 1) = omega (arith, skip, w.some) in
            by_quote quote other (take (suc a.last) s)
            ∙ ap (string_step other closers (take (suc a.last) s)) (w.again other (suc (suc a.last)) (omega (arith, a.past, skip)))
            ∙ ap (λ n. body room closers false n (other + 1) (take (suc a.last) s)) there ∙ a.alone (other + 1)
            ∙ ap ends (let e : (other + 1) + suc a.last ≡ other + suc (suc a.last) = omega arith in e);
      }
    where
      by_quote : (c == 34) ≡ true → (other : ℕ) (t : List ℕ) → body room closers dash 0 other (c ∷ t) ≡ string_step other closers t (string_end other (c ∷ t))
      by_quote h other t = picked (c == 34) _ _ h
        where
          picked : (b : Bool) (x y : End) → b ≡ true → cond b x y ≡ x
          picked true x y h = refl
          picked false x y h = absurd (cc)

  either : (at c : ℕ) (closers s : List ℕ) (dash : Bool) (e : ℕ) (quote : Bool) → (c == 34) ≡ quote → Goes at s e
      → cond quote (string_step at closers s (string_end at (c ∷ s))) (step_of at c closers s (effect_of c (slice_index s 0) dash (innermost closers)) (nat_le room (length closers)) (nat_le (length closers) 1)) ≡ ends e → Alone room closers dash 0 at (c ∷ s) e
  either at c closers s dash e true is go h = quote_by at c closers s dash e (string_end at (c ∷ s)) is refl go h
  either at c closers s dash e false is go h =
      byte_by at c closers s dash e (effect_of c (slice_index s 0) dash (innermost closers)) (nat_le room (length closers)) (nat_le (length closers) 1) refl refl refl go h is

  pub ends_alone : (s closers : List ℕ) (dash : Bool) (n at e : ℕ) → body room closers dash n at s ≡ ends e → Alone room closers dash n at s e
  ends_alone [] closers dash n at e h = absurd (cc)
  ends_alone (c ∷ s) closers dash (suc n) at e h =
      let a = ends_alone s closers false n (at + 1) e h in
      record {
        last = suc a.last;
        is = omega (arith, a.is);
        inside = omega (arith, a.inside);
        past = omega (arith, a.past);
        low = a.low;
        alone = λ other. a.alone (other + 1) ∙ ap ends (let e : (other + 1) + suc a.last ≡ other + suc (suc a.last) = omega arith in e);
      }
  ends_alone (c ∷ s) closers dash zero at e h = either at c closers s dash e (c == 34) refl (λ more d n g. ends_alone s more d n (at + 1) e g) h
