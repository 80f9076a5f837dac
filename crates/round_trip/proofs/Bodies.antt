-- A kept body ends where it ends alone, whatever follows it, and is kept byte for byte.
use Rattle.std.proofs.Common.{◌≡◌, ℕ, zero, suc, ◌+◌, ◌-◌, ◌<◌, ◌≤◌, Bool, true, false, cond, not, List, [], ◌∷◌, ◌++◌, length, take, drop, refl, ap, sym, subst, ◌∙◌, arith, inl, inr, append_assoc, length-append, eqb-true, add-zero, Result, Ok, Err}
use Rattle.std.specs.Prelude.{◌==◌, ◌&&◌, ◌||◌, ◌⊎◌, nat_le, slice_index, Option, Some, None}
use Rattle.std.specs.Option.{option_map_or}
use Rattle.std.proofs.lemmas.Bool.{and_parts}
use Rattle.std.proofs.lemmas.List.{get_or-drop, take-append-drop}
use Rattle.text_scan.specs.Strings.{string_end, IsString}
use Rattle.text_scan.proofs.StringLaws.{string_covers, string_front}
use Rattle.text_scan.proofs.Fronts.{front_part}
use Rattle.mlir_lexer.specs.Body.{body, by_effect, effect_of, innermost, outer, closer, must_close, end_of_body}
use Rattle.mlir_lexer.specs.Scan.{suffix_len}
use Rattle.mlir_lexer.specs.declared.body.Effect.{Effect}
use Rattle.mlir_lexer.specs.declared.body.Effect.TheVariants.{Opens, Closes, Fails, Passes}
use Rattle.mlir_lexer.specs.declared.body.BodyFault.{BodyFault}
use Rattle.mlir_lexer.specs.declared.body.BodyFault.TheVariants.{Unclosed, TooDeep, BadString}
use Rattle.mlir_lexer.specs.declared.token.TokenKind.TheVariants as k
use Rattle.mlir_attributes.specs.declared.aliases.Alias.{Alias}
use Rattle.mlir_attributes.specs.Place.{Place, moved}
use Rattle.mlir_attributes.specs.KeptText.{Names, names, in_front, used_at, is_mark, may_be_used, closers_after}
use Rattle.mlir_attributes.specs.Types.{opens_body, max_open}
use Rattle.mlir_attributes.specs.Grammar.{IsBody, IsMark}
use Rattle.round_trip.specs.Printable.{IsWholeBody}
use Rattle.round_trip.proofs.Places.{Is, Reads, faces, behind, token_there, marked}

abbrev End : Type 0
End = Result ℕ BodyFault

abbrev ends : ℕ → End
ends n = Ok n

abbrev or_end : ℕ → End → ℕ
or_end n (Ok m) = m
or_end n (Err f) = n

-- ---- strings

pub some_string : (front : List ℕ) → IsString front → 0 < length front
some_string front (value, (inside, spells, e)) = subst (λ t. 0 < length t) (sym e) (omega arith)

-- The string at the front, wherever the text stands and whatever follows.
pub record Moves (at : ℕ) (s z : List ℕ) (end : ℕ) : Type 0 where
  pub count : ℕ
  pub some : 0 < count
  pub within : count ≤ length s
  pub is : end ≡ at + count
  pub again : (other : ℕ) → string_end other (s ++ z) ≡ Some (other + count)
  pub alone : (other : ℕ) → string_end other s ≡ Some (other + count)

pub string_moves : (at : ℕ) (s z : List ℕ) (end : ℕ) → string_end at s ≡ Some end → Moves at s z end
string_moves at s z end h =
    let (front, rest, is, e, len) = string_front s at end h in
    record {
      count = length front;
      some = some_string front is;
      within = omega (arith, ap length e, length-append front rest);
      is = len;
      again = λ other. ap (λ t. string_end other (t ++ z)) e ∙ ap (string_end other) (append_assoc front rest z) ∙ string_covers front (rest ++ z) other is;
      alone = λ other. ap (string_end other) e ∙ string_covers front rest other is;
    }

-- ---- the end of a body

closes_again : (p q r : Bool) (other : Effect) → cond ((p && true) || q) Opens other ≡ Closes → cond ((p && r) || q) Opens other ≡ Closes
closes_again true q r other h = absurd (cc)
closes_again false q r other h = h

pub closes_before : (c next : ℕ) (dash : Bool) (inner : ℕ) → effect_of c 0 dash inner ≡ Closes → effect_of c next dash inner ≡ Closes
closes_before c next dash inner h =
    closes_again (c == 60) (c == 40 || (c == 91 || c == 123)) (not (next == 61))
    (cond ((must_close c || (c == 62 && not dash)) && inner == c) Closes (cond (must_close c) Fails Passes)) h

pub last_by : (at m : ℕ) (e : Effect) (full last : Bool) → by_effect e (cond full (Err (TooDeep at)) (Err (Unclosed (at + 1)))) (cond last (ends (at + 1)) (Err (Unclosed (at + 1)))) (Err (Unclosed at)) (Err (Unclosed (at + 1))) ≡ ends m → (e ≡ Closes) × (last ≡ true)
last_by at m Opens true last h = absurd (cc)
last_by at m Opens false last h = absurd (cc)
last_by at m Closes full true h = (refl, refl)
last_by at m Closes full false h = absurd (cc)
last_by at m Fails full last h = absurd (cc)
last_by at m Passes full last h = absurd (cc)

module _ (room : ℕ) (z : List ℕ) where
  -- what holds of the text behind a byte
  abbrev Goes : ℕ → ℕ → List ℕ → Type 0
  Goes at other s = (closers : List ℕ) (dash : Bool) (n : ℕ) → body room closers dash n (at + 1) s ≡ ends ((at + 1) + length s) → body room closers dash n (other + 1) (s ++ z) ≡ ends ((other + 1) + length s)

  abbrev step_of : ℕ → ℕ → List ℕ → List ℕ → Effect → Bool → Bool → End
  step_of at c closers s e full last =
      by_effect e (cond full (Err (TooDeep at)) (body room (closer c ∷ closers) (c == 45) 0 (at + 1) s))
      (cond last (ends (at + 1)) (body room (outer closers) (c == 45) 0 (at + 1) s))
      (Err (Unclosed at)) (body room closers (c == 45) 0 (at + 1) s)

  longer : (at : ℕ) (s : List ℕ) → at + suc (length s) ≡ (at + 1) + length s
  longer at s = omega arith

  same_step : (at other c : ℕ) (closers s : List ℕ) (e : Effect) (full last : Bool) → Goes at other s → step_of at c closers s e full last ≡ ends (at + suc (length s)) → step_of other c closers (s ++ z) e full last ≡ ends (other + suc (length s))
  same_step at other c closers s Opens true last go h = absurd (cc)
  same_step at other c closers s Opens false last go h = go (closer c ∷ closers) (c == 45) 0 (h ∙ ap ends (longer at s)) ∙ ap ends (sym (longer other s))
  same_step at other c closers s Closes full true go h =
      let e : at + 1 ≡ at + suc (length s) = ap (or_end 0) h in
      ap ends (let same : other + 1 ≡ other + suc (length s) = omega arith in same)
  same_step at other c closers s Closes full false go h = go (outer closers) (c == 45) 0 (h ∙ ap ends (longer at s)) ∙ ap ends (sym (longer other s))
  same_step at other c closers s Fails full last go h = absurd (cc)
  same_step at other c closers s Passes full last go h = go closers (c == 45) 0 (h ∙ ap ends (longer at s)) ∙ ap ends (sym (longer other s))

  byte_step : (at other c : ℕ) (closers : List ℕ) (dash : Bool) (s : List ℕ) → Goes at other s
      → step_of at c closers s (effect_of c (slice_index s 0) dash (innermost closers)) (nat_le room (length closers)) (nat_le (length closers) 1) ≡ ends (at + suc (length s))
      → step_of other c closers (s ++ z) (effect_of c (slice_index (s ++ z) 0) dash (innermost closers)) (nat_le room (length closers)) (nat_le (length closers) 1) ≡ ends (other + suc (length s))
  byte_step at other c closers dash [] go h =
      let (closes, last) = last_by at (at + 1) (effect_of c 0 dash (innermost closers)) (nat_le room (length closers)) (nat_le (length closers) 1) h in
      rw (closes_before c (slice_index z 0) dash (innermost closers) closes, last) refl
  byte_step at other c closers dash (d ∷ s) go h =
      same_step at other c closers (d ∷ s) (effect_of c d dash (innermost closers)) (nat_le room (length closers)) (nat_le (length closers) 1) go h

  abbrev string_step : ℕ → List ℕ → List ℕ → Option ℕ → End
  string_step at closers s o = option_map_or (λ end. body room closers false (end - (at + 1)) (at + 1) s) o (Err (BadString at))

  quote_step : (at other : ℕ) (closers t s : List ℕ) (o : Option ℕ) → string_end at t ≡ o → Goes at other s → string_step at closers s o ≡ ends (at + suc (length s))
      → string_step other closers (s ++ z) (string_end other (t ++ z)) ≡ ends (other + suc (length s))
  quote_step at other closers t s None is go h = absurd (cc)
  quote_step at other closers t s (Some end) is go h =
      let m = string_moves at t z end is in
      let here : end - (at + 1) ≡ m.count - 1 = omega (arith, m.is, m.some) in
      let else : (other + m.count) - (other + 1) ≡ m.count - 1 = omega (arith, m.some) in
      let same : body room closers false (m.count - 1) (at + 1) s ≡ ends ((at + 1) + length s) = ap (λ n. body room closers false n (at + 1) s) (sym here) ∙ h ∙ ap ends (longer at s) in
      ap (string_step other closers (s ++ z)) (m.again other) ∙ ap (λ n. body room closers false n (other + 1) (s ++ z)) else ∙ go closers false (m.count - 1) same ∙ ap ends (sym (longer other s))

  either_step : (at other c : ℕ) (closers : List ℕ) (dash : Bool) (s : List ℕ) (quote : Bool) → Goes at other s
      → cond quote (string_step at closers s (string_end at (c ∷ s))) (step_of at c closers s (effect_of c (slice_index s 0) dash (innermost closers)) (nat_le room (length closers)) (nat_le (length closers) 1)) ≡ ends (at + suc (length s))
      → cond quote (string_step other closers (s ++ z) (string_end other (c ∷ (s ++ z)))) (step_of other c closers (s ++ z) (effect_of c (slice_index (s ++ z) 0) dash (innermost closers)) (nat_le room (length closers)) (nat_le (length closers) 1)) ≡ ends (other + suc (length s))
  either_step at other c closers dash s true go h = quote_step at other closers (c ∷ s) s (string_end at (c ∷ s)) refl go h
  either_step at other c closers dash s false go h = byte_step at other c closers dash s go h

  pub body_moves : (b closers : List ℕ) (dash : Bool) (n at other : ℕ) → body room closers dash n at b ≡ ends (at + length b) → body room closers dash n other (b ++ z) ≡ ends (other + length b)
  body_moves [] closers dash n at other h = absurd (cc)
  body_moves (c ∷ s) closers dash (suc n) at other h = body_moves s closers false n (at + 1) (other + 1) (h ∙ ap ends (longer at s)) ∙ ap ends (sym (longer other s))
  body_moves (c ∷ s) closers dash zero at other h =
      either_step at other c closers dash s (c == 34) (λ more d n. body_moves s more d n (at + 1) (other + 1)) h

-- ---- the text of a body

pub used_none : (s : List ℕ) → used_at [] s ≡ None
unfolding used_at
used_none [] = refl
used_none (b ∷ s) = by_test (is_mark b && may_be_used s (suffix_len s))
  where
    none : Option Alias
    none = None

    by_test : (p : Bool) → cond p none none ≡ none
    by_test true = refl
    by_test false = refl

-- the scan goes on, or the text ends
abbrev OrEnds : ℕ → ℕ → List ℕ → Type 0
OrEnds room at s = (s ≡ []) ⊎ ((closers : List ℕ) × (dash : Bool) × (body room closers dash 0 (at + 1) s ≡ ends ((at + 1) + length s)))

no_more : (s : List ℕ) → length s ≡ 0 → s ≡ []
no_more [] e = refl
no_more (b ∷ s) e = absurd (omega arith)

goes_on : (room at c : ℕ) (closers s : List ℕ) (e : Effect) (full last : Bool) → step_of room [] at c closers s e full last ≡ ends (at + suc (length s)) → OrEnds room at s
goes_on room at c closers s Opens true last h = absurd (cc)
goes_on room at c closers s Opens false last h = inr (closer c ∷ closers, c == 45, h ∙ ap ends (longer room [] at s))
goes_on room at c closers s Closes full true h = let e : at + 1 ≡ at + suc (length s) = ap (or_end 0) h in inl (no_more s (omega arith))
goes_on room at c closers s Closes full false h = inr (outer closers, c == 45, h ∙ ap ends (longer room [] at s))
goes_on room at c closers s Fails full last h = absurd (cc)
goes_on room at c closers s Passes full last h = inr (closers, c == 45, h ∙ ap ends (longer room [] at s))

abbrev told : List ℕ → ℕ → Names
told t put = Ok (t, put)

picked : (p : Bool) (a b x : Names) → p ≡ true → a ≡ x → cond p a b ≡ x
picked true a b x h e = e
picked false a b x h e = absurd (cc)

module _ (room put : ℕ) where
  abbrev Whole : ℕ → List ℕ → Type 0
  Whole at s = (limit : ℕ) (closers : List ℕ) (dash : Bool) (n place : ℕ) (cs : List ℕ) (d : Bool) → body limit closers dash n at s ≡ ends (at + length s) → names [] room cs d n put place s ≡ told (drop n s) put

  abbrev put_string : ℕ → List ℕ → ℕ → List ℕ → Option ℕ → Names
  put_string place cs c s o = option_map_or (λ end. in_front (take (end - place) (c ∷ s)) (names [] room cs false (end - (place + 1)) put (place + 1) s)) o (told [] put)

  quoted : (limit at place c : ℕ) (closers cs s : List ℕ) (o : Option ℕ) → string_end at (c ∷ s) ≡ o → Whole (at + 1) s → string_step limit [] at closers s o ≡ ends (at + suc (length s))
      → put_string place cs c s (string_end place (c ∷ s)) ≡ told (c ∷ s) put
  quoted limit at place c closers cs s None is go h = absurd (cc)
  quoted limit at place c closers cs s (Some end) is go h =
      let m = string_moves at (c ∷ s) [] end is in
      let here : end - (at + 1) ≡ m.count - 1 = omega (arith, m.is, m.some) in
      let there : (place + m.count) - (place + 1) ≡ m.count - 1 = omega (arith, m.some) in
      let taken : (place + m.count) - place ≡ m.count = omega arith in
      let same : body limit closers false (m.count - 1) (at + 1) s ≡ ends ((at + 1) + length s) = ap (λ n. body limit closers false n (at + 1) s) (sym here) ∙ h ∙ ap ends (longer limit [] at s) in
      let rest : names [] room cs false (m.count - 1) put (place + 1) s ≡ told (drop (m.count - 1) s) put = go limit closers false (m.count - 1) (place + 1) cs false same in
      let one : drop (m.count - 1) s ≡ drop m.count (c ∷ s) = ap (λ n. drop n (c ∷ s)) (let e : suc (m.count - 1) ≡ m.count = omega (arith, m.some) in e) in
      ap (put_string place cs c s) (m.alone place)
      ∙ rw (taken, there, rest) (ap (λ t. told t put) (ap (λ t. take m.count (c ∷ s) ++ t) one ∙ take-append-drop m.count (c ∷ s)))

  plain : (at place c : ℕ) (cs s : List ℕ) (d : Bool) (limit : ℕ) → OrEnds limit at s → Whole (at + 1) s → in_front (c ∷ []) (names [] room cs d 0 put (place + 1) s) ≡ told (c ∷ s) put
  plain at place c cs s d limit (inl none) go = rw none refl
  plain at place c cs s d limit (inr (closers, dash, more)) go = ap (in_front (c ∷ [])) (go limit closers dash 0 (place + 1) cs d more)

  pub names_whole : (s : List ℕ) (at : ℕ) → Whole at s
  names_whole [] at limit closers dash n place cs d h = absurd (cc)
  names_whole (c ∷ s) at limit closers dash (suc n) place cs d h = names_whole s (at + 1) limit closers false n (place + 1) cs false (h ∙ ap ends (longer limit [] at s))
  names_whole (c ∷ s) at limit closers dash zero place cs d h =
      by_quote (c == 34) refl h (names_whole s (at + 1))
    where
      by_quote : (quote : Bool) → c == 34 ≡ quote
          → cond quote (string_step limit [] at closers s (string_end at (c ∷ s))) (step_of limit [] at c closers s (effect_of c (slice_index s 0) dash (innermost closers)) (nat_le limit (length closers)) (nat_le (length closers) 1)) ≡ ends (at + suc (length s))
          → Whole (at + 1) s → names [] room cs d zero put place (c ∷ s) ≡ told (c ∷ s) put
      by_quote true is g go = picked (c == 34) _ _ _ is (quoted limit at place c closers cs s (string_end at (c ∷ s)) refl go g)
      by_quote false is g go =
          rw (is, used_none (c ∷ s)) (plain at place c (closers_after (effect_of c (slice_index s 0) d (innermost cs)) c cs) s (c == 45) limit
          (goes_on limit at c closers s (effect_of c (slice_index s 0) dash (innermost closers)) (nat_le limit (length closers)) (nat_le (length closers) 1) g) go)

-- ---- a body among other text

-- Its first byte is `<`, and another one but `=` follows.
pub record Begun (b : List ℕ) : Type 0 where
  pub second : ℕ
  pub more : List ℕ
  pub is : b ≡ 60 ∷ second ∷ more
  pub other : (second == 61) ≡ false

not_true : (b : Bool) → not b ≡ true → b ≡ false
not_true true h = absurd (cc)
not_true false h = refl

pub begun : (room : ℕ) (b : List ℕ) → IsWholeBody room b → Begun b
begun room [] h = absurd (let no : false ≡ true = h.opens in cc)
begun room (x ∷ []) h = absurd (let no : Err (Unclosed 1) ≡ ends 1 = h.ends in cc)
begun room (x ∷ c ∷ more) h =
    let parts = and_parts (x == 60) (not (c == 61)) h.opens in
    record { second = c; more = more; is = ap (λ y. y ∷ c ∷ more) (eqb-true x 60 parts.0); other = not_true (c == 61) parts.1 }

byte_at : (s : Place) (z : List ℕ) (i : ℕ) → Is s z → slice_index s.bytes (s.at + i) ≡ slice_index z i
byte_at s z i h = sym (get_or-drop s.at s.bytes i 0) ∙ ap (λ t. slice_index t i) h.stands

body_opens : (s : Place) (c : ℕ) (z : List ℕ) → (c == 61) ≡ false → Is s (60 ∷ c ∷ z) → opens_body s.bytes s.at ≡ true
body_opens s c z other h =
    let first : slice_index s.bytes s.at ≡ 60 = ap (slice_index s.bytes) (sym (add-zero s.at)) ∙ byte_at s (60 ∷ c ∷ z) 0 h in
    let second : slice_index s.bytes (s.at + 1) ≡ c = byte_at s (60 ∷ c ∷ z) 1 h in
    rw (first, second, other) refl

-- The texts of a body: the one that is found and the one that is kept.
body_by : (room : ℕ) (c : ℕ) (more z : List ℕ) (s : Place) → 0 < room → (c == 61) ≡ false → end_of_body (60 ∷ c ∷ more) 0 (max_open - room) ≡ ends (length (60 ∷ c ∷ more)) → Is s (60 ∷ c ∷ (more ++ z)) → IsBody [] room (60 ∷ c ∷ more) s (moved s (s.at + length (60 ∷ c ∷ more)))
body_by room c more z s some other found h =
    let b = 60 ∷ c ∷ more in
    let limit = 256 - (max_open - room) in
    let part = front_part s.bytes s.at b z h.within h.stands in
    let next = behind s (60 ∷ []) (c ∷ (more ++ z)) h in
    let alone : body limit (62 ∷ []) false 0 1 (c ∷ more) ≡ ends (1 + length (c ∷ more)) = found ∙ ap ends (let e : length b ≡ 1 + length (c ∷ more) = omega arith in e) in
    let moves = body_moves limit z (c ∷ more) (62 ∷ []) false 0 1 (s.at + 1) alone in
    let stays = names_whole room s.put (c ∷ more) 1 limit (62 ∷ []) false 0 1 (closers_after (effect_of 60 c false (innermost [])) 60 []) (60 == 45) alone in
    let kept : names [] room [] false 0 s.put 0 b ≡ told b s.put = rw (used_none b) (ap (in_front (60 ∷ [])) stays) in
    record {
      token = record { kind = k.Less; start = s.at; end = s.at + 1 };
      stands = token_there s (60 ∷ c ∷ (more ++ z)) (record { kind = k.Less; start = s.at; end = s.at + 1 }) h refl refl;
      opens = body_opens s c (more ++ z) other h;
      some = some;
      end = s.at + length b;
      ends = ap (body limit (62 ∷ []) false 0 (s.at + 1)) next.stands ∙ moves ∙ ap ends (let e : (s.at + 1) + length (c ∷ more) ≡ s.at + length b = omega arith in e);
      put = s.put;
      text_is = ap (names [] room [] false 0 s.put 0) part.0 ∙ kept;
      rest = refl;
    }

pub body_again : (room : ℕ) (b z : List ℕ) (s : Place) → IsWholeBody room b → Is s (b ++ z) → IsBody [] room b s (moved s (s.at + length b)) × Is (moved s (s.at + length b)) z
body_again room b z s h is =
    let g = begun room b h in (
      subst (λ t. IsBody [] room t s (moved s (s.at + length t))) (sym g.is)
          (body_by room g.second g.more z s h.some g.other (subst (λ t. end_of_body t 0 (max_open - room) ≡ ends (length t)) g.is h.ends) (subst (λ t. Is s (t ++ z)) g.is is)),
      behind s b z is,
    )

pub less_there : (s : Place) (z : List ℕ) → Is s (60 ∷ z) → Reads (IsMark k.Less) s z
less_there s z h = marked k.Less (60 ∷ []) s z (faces s (60 ∷ z) h) (refl, λ at. refl)

pub opens_text : (room : ℕ) (b z : List ℕ) → IsWholeBody room b → (rest : List ℕ) × (b ++ z ≡ 60 ∷ rest)
opens_text room b z h = let g = begun room b h in (g.second ∷ (g.more ++ z), ap (λ t. t ++ z) g.is)
