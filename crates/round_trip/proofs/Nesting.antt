-- A kept body whose text opens at most so many brackets ends where so many may be opened.
use Rattle.std.proofs.Common.{◌≡◌, ℕ, zero, suc, ◌+◌, ◌-◌, ◌<◌, ◌≤◌, Bool, true, false, cond, not, List, [], ◌∷◌, ◌++◌, length, take, drop, refl, ap, sym, subst, ◌∙◌, arith, append_assoc, length-append, Result, Ok, Err, Option, Some, None}
use Rattle.std.specs.Prelude.{◌==◌, ◌&&◌, ◌||◌, nat_le, slice_index, max}
use Rattle.std.specs.List.{AllByRecursion}
use Rattle.std.specs.Option.{option_map_or}
use Rattle.std.proofs.lemmas.Bool.{leb-true}
use Rattle.std.proofs.lemmas.Bool.Decides.{nat_tests}
use Rattle.std.proofs.Math.Seq.{drop-append_seam}
use Rattle.text_scan.specs.Hexadecimal.{is_hex_digit}
use Rattle.text_scan.specs.Strings.{IsPart, plain, escape, code, Spells, IsString, string_end, is_plain}
use Rattle.text_scan.proofs.StringLaws.{string_front}
use Rattle.mlir_lexer.specs.Body.{body, by_effect, effect_of, innermost, outer, closer}
use Rattle.mlir_lexer.specs.declared.body.Effect.{Effect}
use Rattle.mlir_lexer.specs.declared.body.Effect.TheVariants.{Opens, Closes, Fails, Passes}
use Rattle.mlir_lexer.specs.declared.body.BodyFault.{BodyFault}
use Rattle.mlir_lexer.specs.declared.body.BodyFault.TheVariants.{Unclosed, TooDeep, BadString}
use Rattle.mlir_attributes.specs.declared.nesting.Scan.{Scan}
use Rattle.mlir_attributes.specs.Brackets as brackets
use Rattle.mlir_attributes.specs.Brackets.{closers_by}
use Rattle.mlir_attributes.specs.KeptText.{closers_after}
use Rattle.mlir_attributes.specs.Nesting.{scan_to, scan_byte, scan_text, nesting}
use Rattle.round_trip.proofs.Bodies.{some_string}

abbrev End : Type 0
End = Result ℕ BodyFault

abbrev ends : ℕ → End
ends n = Ok n

-- ---- what was seen before a byte

-- outside strings, and inside one
abbrev outside : List ℕ → Bool → ℕ → Scan
outside closers dash most = record { closers = closers; dash = dash; quoted = false; escaped = false; most = most }

abbrev inside : List ℕ → Bool → ℕ → Scan
inside closers escaped most = record { closers = closers; dash = false; quoted = true; escaped = escaped; most = most }

max_left : (a b : ℕ) → a ≤ max a b
max_left a b = omega arith

max_right : (a b : ℕ) → b ≤ max a b
max_right a b = omega arith

-- a byte that is no quote
outside_byte : (b next : ℕ) (closers : List ℕ) (dash : Bool) (most : ℕ) → b == 34 ≡ false
    → scan_byte (outside closers dash most) b next ≡ scan_to (outside closers dash most) (closers_by (effect_of b next dash (brackets.innermost closers)) b closers) b
unfolding scan_byte
outside_byte b next closers dash most other =
    ap (λ q. cond q (inside closers false most) (scan_to (outside closers dash most) (closers_by (effect_of b next dash (brackets.innermost closers)) b closers) b)) other

byte_grows : (s : Scan) (b next : ℕ) → s.most ≤ (scan_byte s b next).most
unfolding scan_byte
byte_grows s b next = by_tests s.quoted (b == 34)
  where
    by_tests : (p q : Bool) → s.most ≤ (cond p (record s { quoted = s.escaped || not (b == 34); escaped = not s.escaped && b == 92; dash = false }) (cond q (record s { quoted = true; dash = false }) (scan_to s (closers_by (effect_of b next s.dash (brackets.innermost s.closers)) b s.closers) b))).most
    by_tests true q = omega arith
    by_tests false true = omega arith
    by_tests false false = max_left s.most (length (closers_by (effect_of b next s.dash (brackets.innermost s.closers)) b s.closers))

grows : (text : List ℕ) (s : Scan) → s.most ≤ (scan_text s text).most
unfolding scan_text
grows [] s = omega arith
grows (b ∷ text) s = let here = byte_grows s b (slice_index text 0) in let more = grows text (scan_byte s b (slice_index text 0)) in omega (arith, here, more)

-- ---- strings

no_or : (a b : Bool) → not (a || b) ≡ true → (a ≡ false) × (b ≡ false)
no_or true b h = absurd (cc)
no_or false true h = absurd (cc)
no_or false false h = (refl, refl)

plain_byte : (b : ℕ) → is_plain b ≡ true → (b == 34 ≡ false) × (b == 92 ≡ false)
plain_byte b h = let p = no_or (b == 34 || b == 10) (b == 92) h in ((no_or (b == 34) (b == 10) (ap not p.0)).0, p.1)

hex_byte : (b : ℕ) → is_hex_digit b ≡ true → (b == 34 ≡ false) × (b == 92 ≡ false)
hex_byte b h = (grind (arith, nat_tests), grind (arith, nat_tests))

module _ (closers : List ℕ) (most : ℕ) where
  -- neither a quote nor a backslash
  inside_byte : (b : ℕ) → b == 34 ≡ false → b == 92 ≡ false → record { closers = closers; dash = false; quoted = not (b == 34); escaped = b == 92; most = most } ≡ inside closers false most
  inside_byte b quote slash = λ j. record { closers = closers; dash = false; quoted = not (quote j); escaped = slash j; most = most }

  scan_part : (part : List ℕ) (b : ℕ) (z : List ℕ) → IsPart part b → scan_text (inside closers false most) (part ++ z) ≡ scan_text (inside closers false most) z
  unfolding scan_text scan_byte
  scan_part _ _ z (plain b is) = let p = plain_byte b is in ap (λ (x : Scan). scan_text x z) (inside_byte b p.0 p.1)
  scan_part _ _ z (escape c b is) = refl
  scan_part _ _ z (code high low p q) = let h = hex_byte low q in ap (λ (x : Scan). scan_text x z) (inside_byte low h.0 h.1)

  scan_inside : (value text z : List ℕ) → Spells text value → scan_text (inside closers false most) (text ++ 34 ∷ z) ≡ scan_text (outside closers false most) z
  unfolding scan_text scan_byte
  scan_inside [] text z h = rw h refl
  scan_inside (b ∷ value) text z (part, rest, is, spells, same) =
      ap (λ t. scan_text (inside closers false most) (t ++ 34 ∷ z)) same ∙ ap (scan_text (inside closers false most)) (append_assoc part rest (34 ∷ z))
      ∙ scan_part part b (rest ++ 34 ∷ z) is ∙ scan_inside value rest z spells

  scan_string : (dash : Bool) (text z : List ℕ) → IsString text → scan_text (outside closers dash most) (text ++ z) ≡ scan_text (outside closers false most) z
  unfolding scan_text scan_byte
  scan_string dash text z (value, (within, spells, same)) =
      ap (λ t. scan_text (outside closers dash most) (t ++ z)) same ∙ ap (scan_text (inside closers false most)) (append_assoc within (34 ∷ []) z) ∙ scan_inside value within z spells

-- ---- brackets

last_is : (xs : List ℕ) (c : ℕ) → brackets.innermost (xs ++ c ∷ []) ≡ c
last_is xs c = ap (slice_index (xs ++ c ∷ [])) (let e : length (xs ++ c ∷ []) - 1 ≡ length xs = omega (arith, length-append xs (c ∷ [])) in e) ∙ at_end xs
  where
    at_end : (ys : List ℕ) → slice_index (ys ++ c ∷ []) (length ys) ≡ c
    at_end [] = refl
    at_end (y ∷ ys) = at_end ys

rest_is : (xs : List ℕ) (c : ℕ) → brackets.outer (xs ++ c ∷ []) ≡ xs
rest_is xs c = ap (λ n. take n (xs ++ c ∷ [])) (let e : length (xs ++ c ∷ []) - 1 ≡ length xs = omega (arith, length-append xs (c ∷ [])) in e) ∙ before xs
  where
    before : (ys : List ℕ) → take (length ys) (ys ++ c ∷ []) ≡ ys
    before [] = refl
    before (y ∷ ys) = ap (λ t. y ∷ t) (before ys)

-- the innermost last
abbrev turned : List ℕ → List ℕ
turned [] = []
turned (c ∷ cs) = turned cs ++ c ∷ []

turned_length : (cs : List ℕ) → length (turned cs) ≡ length cs
turned_length [] = refl
turned_length (c ∷ cs) = omega (arith, length-append (turned cs) (c ∷ []), turned_length cs)

same_innermost : (closers : List ℕ) → brackets.innermost (turned closers) ≡ innermost closers
same_innermost [] = refl
same_innermost (c ∷ cs) = last_is (turned cs) c

same_closers : (e : Effect) (b : ℕ) (closers : List ℕ) → closers_by e b (turned closers) ≡ turned (closers_after e b closers)
same_closers Opens b closers = refl
same_closers Closes b [] = refl
same_closers Closes b (c ∷ cs) = rest_is (turned cs) c
same_closers Fails b closers = refl
same_closers Passes b closers = refl

-- ---- bodies

abbrev dash_of : ℕ → Bool → Bool
dash_of zero dash = dash
dash_of (suc n) dash = false

no_dash : (n : ℕ) → dash_of n false ≡ false
no_dash zero = refl
no_dash (suc n) = refl

-- how many brackets are open at once in the rest of a body
abbrev most_behind : List ℕ → Bool → ℕ → List ℕ → ℕ
most_behind closers dash most s = (scan_text (outside (turned closers) dash most) s).most

module _ (large small : ℕ) where
  abbrev Narrows : List ℕ → Type 0
  Narrows s = (at e : ℕ) (closers : List ℕ) (dash : Bool) (n most : ℕ) → body large closers dash n at s ≡ ends e → most_behind closers (dash_of n dash) most (drop n s) ≤ small → body small closers dash n at s ≡ ends e

  abbrev string_step : ℕ → ℕ → List ℕ → List ℕ → Option ℕ → End
  string_step room at closers s o = option_map_or (λ end. body room closers false (end - (at + 1)) (at + 1) s) o (Err (BadString at))

  abbrev step_of : ℕ → ℕ → ℕ → List ℕ → List ℕ → Effect → Bool → Bool → End
  step_of room at c closers s e full last =
      by_effect e (cond full (Err (TooDeep at)) (body room (closer c ∷ closers) (c == 45) 0 (at + 1) s))
      (cond last (ends (at + 1)) (body room (outer closers) (c == 45) 0 (at + 1) s))
      (Err (Unclosed at)) (body room closers (c == 45) 0 (at + 1) s)

  behind_string : (at end c : ℕ) (closers s : List ℕ) (dash : Bool) (most : ℕ) → string_end at (c ∷ s) ≡ Some end → most_behind closers dash most (c ∷ s) ≡ most_behind closers false most (drop (end - (at + 1)) s)
  behind_string at end c closers s dash most is =
      let (front, rest, string, same, long) = string_front (c ∷ s) at end is in
      let some = some_string front string in
      let left : drop (end - (at + 1)) s ≡ rest = ap (λ n. drop n (c ∷ s)) (let e : suc (end - (at + 1)) ≡ length front = omega (arith, long, some) in e) ∙ ap (drop (length front)) same ∙ drop-append_seam front rest in
      ap (λ t. most_behind closers dash most t) same ∙ ap (λ (x : Scan). x.most) (scan_string (turned closers) most dash front rest string) ∙ ap (most_behind closers false most) (sym left)

  narrow_string : (at e c : ℕ) (closers s : List ℕ) (dash : Bool) (most : ℕ) (o : Option ℕ) → string_end at (c ∷ s) ≡ o → Narrows s → string_step large at closers s o ≡ ends e → most_behind closers dash most (c ∷ s) ≤ small → string_step small at closers s o ≡ ends e
  narrow_string at e c closers s dash most None is go h few = absurd (cc)
  narrow_string at e c closers s dash most (Some end) is go h few =
      go (at + 1) e closers false (end - (at + 1)) most h
      (subst (λ d. most_behind closers d most (drop (end - (at + 1)) s) ≤ small) (sym (no_dash (end - (at + 1)))) (subst (λ n. n ≤ small) (behind_string at end c closers s dash most is) few))

  narrow_step : (at e c : ℕ) (closers s : List ℕ) (effect : Effect) (most : ℕ) (full full_small last : Bool) → nat_le small (length closers) ≡ full_small → Narrows s → step_of large at c closers s effect full last ≡ ends e
      → most_behind (closers_after effect c closers) (c == 45) (max most (length (turned (closers_after effect c closers)))) s ≤ small → step_of small at c closers s effect full_small last ≡ ends e
  narrow_step at e c closers s Opens most true full_small last is go h few = absurd (cc)
  narrow_step at e c closers s Opens most false true last is go h few =
      let least = leb-true small (length closers) is in
      let more = grows s (outside (turned (closer c ∷ closers)) (c == 45) (max most (length (turned (closer c ∷ closers))))) in
      let long : length (turned (closer c ∷ closers)) ≡ suc (length closers) = turned_length (closer c ∷ closers) in
      let most_of = max_right most (length (turned (closer c ∷ closers))) in
      absurd (omega (arith, least, more, long, most_of, few))
  narrow_step at e c closers s Opens most false false last is go h few = go (at + 1) e (closer c ∷ closers) (c == 45) 0 _ h few
  narrow_step at e c closers s Closes most full full_small true is go h few = h
  narrow_step at e c closers s Closes most full full_small false is go h few = go (at + 1) e (outer closers) (c == 45) 0 _ h few
  narrow_step at e c closers s Fails most full full_small last is go h few = absurd (cc)
  narrow_step at e c closers s Passes most full full_small last is go h few = go (at + 1) e closers (c == 45) 0 _ h few

  -- the scan behind a byte outside strings
  behind_byte : (c : ℕ) (closers s : List ℕ) (dash : Bool) (most : ℕ) (effect : Effect) → c == 34 ≡ false → effect_of c (slice_index s 0) dash (innermost closers) ≡ effect
      → most_behind closers dash most (c ∷ s) ≡ most_behind (closers_after effect c closers) (c == 45) (max most (length (turned (closers_after effect c closers)))) s
  unfolding scan_text scan_byte
  behind_byte c closers s dash most effect other is =
      let seen : effect_of c (slice_index s 0) dash (brackets.innermost (turned closers)) ≡ effect = ap (effect_of c (slice_index s 0) dash) (same_innermost closers) ∙ is in
      ap (λ (x : Scan). (scan_text x s).most) (outside_byte c (slice_index s 0) (turned closers) dash most other ∙ ap (λ e. scan_to (outside (turned closers) dash most) (closers_by e c (turned closers)) c) seen)
      ∙ ap (λ xs. (scan_text (outside xs (c == 45) (max most (length xs))) s).most) (same_closers effect c closers)

  narrow_either : (at e c : ℕ) (closers s : List ℕ) (dash : Bool) (most : ℕ) (quote : Bool) → c == 34 ≡ quote → Narrows s
      → cond quote (string_step large at closers s (string_end at (c ∷ s))) (step_of large at c closers s (effect_of c (slice_index s 0) dash (innermost closers)) (nat_le large (length closers)) (nat_le (length closers) 1)) ≡ ends e
      → most_behind closers dash most (c ∷ s) ≤ small
      → cond quote (string_step small at closers s (string_end at (c ∷ s))) (step_of small at c closers s (effect_of c (slice_index s 0) dash (innermost closers)) (nat_le small (length closers)) (nat_le (length closers) 1)) ≡ ends e
  narrow_either at e c closers s dash most true is go h few = narrow_string at e c closers s dash most (string_end at (c ∷ s)) refl go h few
  narrow_either at e c closers s dash most false is go h few =
      narrow_step at e c closers s (effect_of c (slice_index s 0) dash (innermost closers)) most (nat_le large (length closers)) (nat_le small (length closers)) (nat_le (length closers) 1) refl go h
      (subst (λ n. n ≤ small) (behind_byte c closers s dash most (effect_of c (slice_index s 0) dash (innermost closers)) is refl) few)

  narrows : (s : List ℕ) → Narrows s
  narrows [] at e closers dash n most h few = absurd (cc)
  narrows (c ∷ s) at e closers dash (suc n) most h few = narrows s (at + 1) e closers false n most h (subst (λ d. most_behind closers d most (drop n s) ≤ small) (sym (no_dash n)) few)
  narrows (c ∷ s) at e closers dash zero most h few = narrow_either at e c closers s dash most (c == 34) refl (narrows s) h few

-- ---- what stands before a body

-- a byte that is no bracket and no quote
pub record IsOuter (b : ℕ) : Type 0 where
  pub quote : (b == 34) ≡ false
  pub round : (b == 40) ≡ false
  pub close_round : (b == 41) ≡ false
  pub less : (b == 60) ≡ false
  pub greater : (b == 62) ≡ false
  pub square : (b == 91) ≡ false
  pub close_square : (b == 93) ≡ false
  pub brace : (b == 123) ≡ false
  pub close_brace : (b == 125) ≡ false

passes : (b next : ℕ) (dash : Bool) (last : ℕ) → IsOuter b → effect_of b next dash last ≡ Passes
passes b next dash last h = rw (h.less, h.round, h.square, h.brace, h.close_round, h.close_square, h.close_brace, h.greater) refl

-- The scan goes on behind it, outside all brackets.
front_scan : (front z : List ℕ) (dash : Bool) (most : ℕ) → AllByRecursion IsOuter front → (d : Bool) × (n : ℕ) × (scan_text (outside [] dash most) (front ++ z) ≡ scan_text (outside [] d n) z)
unfolding scan_text scan_byte
front_scan [] z dash most h = (dash, most, refl)
front_scan (b ∷ front) z dash most h =
    let (d, n, same) = front_scan front z (b == 45) (max most 0) h.1 in
    let here : scan_byte (outside [] dash most) b (slice_index (front ++ z) 0) ≡ outside [] (b == 45) (max most 0) =
    outside_byte b (slice_index (front ++ z) 0) [] dash most h.0.quote ∙ ap (λ e. scan_to (outside [] dash most) (closers_by e b []) b) (passes b (slice_index (front ++ z) 0) dash 0 h.0) in
    (d, n, ap (λ (x : Scan). scan_text x (front ++ z)) here ∙ same)

-- Behind the `<` of a body.
opens_scan : (c : ℕ) (more : List ℕ) (dash : Bool) (most : ℕ) → c == 61 ≡ false → scan_text (outside [] dash most) (60 ∷ c ∷ more) ≡ scan_text (outside (62 ∷ []) false (max most 1)) (c ∷ more)
unfolding scan_text scan_byte
opens_scan c more dash most other = rw other refl

-- A body behind a front ends where as many brackets may be opened as its text opens.
pub narrow_body : (front : List ℕ) (c : ℕ) (more : List ℕ) (large room : ℕ) → AllByRecursion IsOuter front → c == 61 ≡ false → body large (62 ∷ []) false 0 1 (c ∷ more) ≡ ends (length (60 ∷ c ∷ more)) → nesting (front ++ 60 ∷ c ∷ more) ≤ room
    → (0 < room) × (body room (62 ∷ []) false 0 1 (c ∷ more) ≡ ends (length (60 ∷ c ∷ more)))
narrow_body front c more large room outer_front other h few =
    let (d, n, same) = front_scan front (60 ∷ c ∷ more) false 0 outer_front in
    let behind = same ∙ opens_scan c more d n other in
    let inside_few : most_behind (62 ∷ []) false (max n 1) (c ∷ more) ≤ room = subst (λ (x : Scan). x.most ≤ room) behind few in
    let least = grows (c ∷ more) (outside (62 ∷ []) false (max n 1)) in
    let one = max_right n 1 in
    (omega (arith, inside_few, least, one), narrows large room (c ∷ more) 1 (length (60 ∷ c ∷ more)) (62 ∷ []) false 0 (max n 1) h inside_few)
