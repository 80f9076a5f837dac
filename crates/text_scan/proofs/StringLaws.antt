-- Strings: what the scan finds is what a string is.
use Rattle.std.proofs.Common.{◌≡◌, ℕ, zero, suc, ◌+◌, ◌-◌, ◌<◌, ◌≤◌, Bool, true, false, cond, not, List, [], ◌∷◌, ◌++◌, length, take, drop, get_or, refl, ap, sym, subst, ◌∙◌, arith, inl, inr, ◌≢◌, add-one, add-zero, Option, Some, None, append_assoc, length-drop, length-append, eqb-true}
use Rattle.std.specs.Prelude.{◌==◌, ◌&&◌, ◌||◌, slice_range, IfSome}
use Rattle.std.specs.Option.{option_map, option_map_or}
use Rattle.std.specs.List.{AllWithin}
use Rattle.memchr.specs.Find.{IsFirstByte, Passes, is_byte3}
use Rattle.text_scan.proofs.Fronts.{front_part, part_front}
use Rattle.std.proofs.lemmas.Bool.{false≢true, not-false, or_cases, cases_Bool}
use Rattle.std.proofs.lemmas.List.{take-append-drop, drop-drop, drop_all, drop_more, get_or-drop, get_or_default, length-take-le}
use Rattle.text_scan.specs.declared.strings.Escape.{Escape}
use Rattle.text_scan.specs.Hexadecimal.{is_hex_digit}
use Rattle.text_scan.specs.Strings as spec
use Rattle.text_scan.specs.Strings.{IsPart, Spells, IsStringOf, IsString, IsStringAt, escaped_byte, coded_byte, byte_value, escape_at, inside_end, inside_value, is_plain, string_value, part_at, IsNextSpecial}
use Rattle.text_scan.specs.Strings.IsPart.{plain, escape, code}

-- the bytes that belong to an escape are passed over
pub skipped : (n at : ℕ) (s : List ℕ) → inside_end n at s ≡ inside_end 0 (at + n) (drop n s)
skipped zero at s = rw add-zero refl
skipped (suc n) at [] = refl
skipped (suc n) at (b ∷ s) = skipped n (at + 1) s ∙ ap (λ k. inside_end 0 k (drop n s)) (omega arith)

none_of : (x y z : Bool) → not (x || y || z) ≡ true → (x ≡ false) × (y ≡ false) × (z ≡ false)
none_of true y z h = cc
none_of false true z h = cc
none_of false false true h = cc
none_of false false false h = (refl, refl, refl)

none_plain : (b : ℕ) → is_plain b ≡ true → (b == 34 ≡ false) × (b == 10 ≡ false) × (b == 92 ≡ false)
none_plain b h = none_of (b == 34) (b == 10) (b == 92) h

step_plain : (at b : ℕ) (s : List ℕ) → is_plain b ≡ true → inside_end 0 at (b ∷ s) ≡ inside_end 0 (at + 1) s
step_plain at b s h = let (quote, line_feed, backslash) = none_plain b h in rw (quote, line_feed, backslash) refl

-- plain bytes are passed over
pub past_plain : (at n : ℕ) (s : List ℕ) → ((k : ℕ) → k < n → is_plain (get_or s k 0) ≡ true) → n ≤ length s → inside_end 0 at s ≡ inside_end 0 (at + n) (drop n s)
past_plain at zero s h fits = rw add-zero refl
past_plain at (suc n) [] h fits = absurd (omega arith)
past_plain at (suc n) (b ∷ s) h fits =
    step_plain at b s (h 0 (omega arith)) ∙ past_plain (at + 1) n s (λ k l. h (suc k) (omega arith)) (omega arith) ∙ ap (λ k. inside_end 0 k (drop n s)) (omega arith)

abbrev PlainWithin : List ℕ → ℕ → ℕ → Type 0
PlainWithin bytes from end = AllWithin (λ b. is_plain b ≡ true) bytes from end

-- plain bytes between two places are passed over
pub plain_within : (bytes : List ℕ) (from stop : ℕ) → from ≤ stop → stop ≤ length bytes → PlainWithin bytes from stop → inside_end 0 from (drop from bytes) ≡ inside_end 0 stop (drop stop bytes)
plain_within bytes from stop order within all =
    past_plain from (stop - from) (drop from bytes) (λ k l. rw get_or-drop (all (from + k) 0 (omega arith) (omega arith))) (omega (arith, length-drop from bytes))
    ∙ rw drop-drop (ap (λ k. inside_end 0 k (drop k bytes)) (omega arith))

-- up to the first special byte
pub to_special : (bytes : List ℕ) (from stop : ℕ) → IsNextSpecial bytes from (Some stop) → inside_end 0 from (drop from bytes) ≡ inside_end 0 stop (drop stop bytes)
to_special bytes from stop (order, inside, special, all) = plain_within bytes from stop order (omega arith) all

nothing_left : (at : ℕ) → inside_end 0 at [] ≡ None
nothing_left at = refl

-- plain bytes up to the end
pub plain_to_end : (bytes : List ℕ) (from : ℕ) → from ≤ length bytes → PlainWithin bytes from (length bytes) → inside_end 0 from (drop from bytes) ≡ None
plain_to_end bytes from within all =
    plain_within bytes from (length bytes) within (omega arith) all ∙ rw (drop_all (length bytes) bytes (omega arith)) refl

abbrev at_stop : List ℕ → ℕ → ℕ → Option ℕ
at_stop bytes stop b = inside_end 0 stop (b ∷ drop (stop + 1) bytes)

stop_is : (bytes : List ℕ) (stop b : ℕ) → stop < length bytes → get_or bytes stop 0 ≡ b → inside_end 0 stop (drop stop bytes) ≡ at_stop bytes stop b
stop_is bytes stop b h e = rw (drop_more bytes stop 0 h, e) refl

pub at_quote : (bytes : List ℕ) (stop : ℕ) → stop < length bytes → get_or bytes stop 0 ≡ 34 → inside_end 0 stop (drop stop bytes) ≡ Some (stop + 1)
at_quote bytes stop h e = stop_is bytes stop 34 h e

pub at_line_feed : (bytes : List ℕ) (stop : ℕ) → stop < length bytes → get_or bytes stop 0 ≡ 10 → inside_end 0 stop (drop stop bytes) ≡ None
at_line_feed bytes stop h e = stop_is bytes stop 10 h e

other_special : (b : ℕ) → is_plain b ≡ false → b ≢ 34 → b ≢ 10 → b ≡ 92
other_special b h quote line_feed =
    elim (or_cases (b == 34 || b == 10) (b == 92) (not-false (b == 34 || b == 10 || b == 92) h)) [
      | inl either ↦ elim (or_cases (b == 34) (b == 10) either) [ inl is ↦ absurd (quote (eqb-true b 34 is)) | inr is ↦ absurd (line_feed (eqb-true b 10 is)) ]
      | inr is ↦ eqb-true b 92 is
    ]

-- what follows a backslash
pub at_backslash : (bytes : List ℕ) (stop : ℕ) (o : Option Escape) → stop < length bytes → is_plain (get_or bytes stop 0) ≡ false → get_or bytes stop 0 ≢ 34 → get_or bytes stop 0 ≢ 10 → o ≡ escape_at (drop (stop + 1) bytes) → inside_end 0 stop (drop stop bytes) ≡ option_map_or (λ e. inside_end 0 (stop + 1 + e.len) (drop (stop + 1 + e.len) bytes)) o None
at_backslash bytes stop o h special quote line_feed is =
    stop_is bytes stop 92 h (other_special (get_or bytes stop 0) special quote line_feed) ∙ rw (← is) (by_escape o)
  where
    by_escape : (o : Option Escape) → option_map_or (λ e. inside_end e.len (stop + 1) (drop (stop + 1) bytes)) o None ≡ option_map_or (λ e. inside_end 0 (stop + 1 + e.len) (drop (stop + 1 + e.len) bytes)) o None
    by_escape None = refl
    by_escape (Some e) = skipped e.len (stop + 1) (drop (stop + 1) bytes) ∙ rw drop-drop refl

special_at : (bytes : List ℕ) (from k : ℕ) → is_plain (get_or (drop from bytes) k 0) ≡ is_plain (get_or bytes (from + k) 0)
special_at bytes from k = rw get_or-drop refl

not_special : (b : ℕ) → (is_byte3 34 10 92 b ≡ true → ⊥) → is_plain b ≡ true
not_special b h = elim (cases_Bool (is_byte3 34 10 92 b)) [ inl is ↦ absurd (h is) | inr is ↦ ap not is ]

plain_below : (bytes : List ℕ) (from n : ℕ) → from + n ≤ length bytes → ((k : ℕ) → 0 ≤ k → k < n → Passes (is_byte3 34 10 92) (drop from bytes) k → ⊥) → PlainWithin bytes from (from + n)
plain_below bytes from n fits none k d low high =
    let j = k - from in
    let plain_there = not_special (get_or (drop from bytes) j 0) (none j (omega arith) (omega arith)) in
    let at_k : from + j ≡ k = omega arith in
    rw (get_or_default bytes k d 0 (omega arith), ← at_k) (sym (special_at bytes from j) ∙ plain_there)

-- the first special byte behind a place
pub special_is : (bytes : List ℕ) (from : ℕ) (r : Option ℕ) → from ≤ length bytes → IsFirstByte (is_byte3 34 10 92) (drop from bytes) r → IsNextSpecial bytes from (option_map (λ n. from + n) r)
special_is bytes from None within h =
    let all = plain_below bytes from (length (drop from bytes)) (omega (arith, length-drop from bytes)) h in
    subst (PlainWithin bytes from) (omega (arith, length-drop from bytes)) all
special_is bytes from (Some n) within h =
    (omega arith, omega (arith, h.0.high, length-drop from bytes), sym (special_at bytes from n) ∙ ap not h.1, plain_below bytes from n (omega (arith, h.0.high, length-drop from bytes)) h.0.before)

-- an escape that is read is a part that stands for its byte

abbrev IsEscape : List ℕ → Escape → Type 0
IsEscape s e = IsPart (92 ∷ take e.len s) e.byte × (e.len ≤ length s)

abbrev some_escape : Escape → Option Escape
some_escape e = Some e

some_same : (e f : Escape) → some_escape e ≡ some_escape f → e ≡ f
some_same e f h = cc

no_escape : (e : Escape) → None ≡ some_escape e → ⊥
no_escape e h = cc

coded_parts : (p q : Bool) (v b : ℕ) → cond {A = Option ℕ} (p && q) (Some v) None ≡ Some b → (p ≡ true) × (q ≡ true) × (v ≡ b)
coded_parts true true v b h = (refl, refl, cc)
coded_parts true false v b h = absurd (cc)
coded_parts false q v b h = absurd (cc)

simple_escape : (s : List ℕ) (b : ℕ) → escaped_byte (get_or s 0 0) ≡ Some b → IsEscape s (record { byte = b; len = 1 })
simple_escape [] b h = absurd (cc)
simple_escape (c ∷ s) b h = (escape c b h, omega arith)

coded_escape : (s : List ℕ) (b : ℕ) → coded_byte (get_or s 0 0) (get_or s 1 0) ≡ Some b → IsEscape s (record { byte = b; len = 2 })
coded_escape [] b h = absurd (cc)
coded_escape (c ∷ []) b h = absurd (false≢true (coded_parts (is_hex_digit c) false (byte_value c 0) b h).1)
coded_escape (c ∷ d ∷ s) b h =
    let (high, low, is) = coded_parts (is_hex_digit c) (is_hex_digit d) (byte_value c d) b h in
    (subst (IsPart (92 ∷ c ∷ d ∷ [])) is (code c d high low), omega arith)

escape_by : (s : List ℕ) (o m : Option ℕ) (e : Escape) → escaped_byte (get_or s 0 0) ≡ o → coded_byte (get_or s 0 0) (get_or s 1 0) ≡ m → option_map_or (λ b. some_escape (record { byte = b; len = 1 })) o (option_map (λ b. record { byte = b; len = 2 }) m) ≡ Some e → IsEscape s e
escape_by s (Some b) m e simple coded h = subst (IsEscape s) (some_same (record { byte = b; len = 1 }) e h) (simple_escape s b simple)
escape_by s None (Some b) e simple coded h = subst (IsEscape s) (some_same (record { byte = b; len = 2 }) e h) (coded_escape s b coded)
escape_by s None None e simple coded h = absurd (no_escape e h)

escape_is : (s : List ℕ) (e : Escape) → escape_at s ≡ Some e → IsEscape s e
escape_is s e h = escape_by s (escaped_byte (get_or s 0 0)) (coded_byte (get_or s 0 0) (get_or s 1 0)) e refl refl h

-- where the scan ends, a closing quote stands behind parts

abbrev EndsAt : ℕ → ℕ → List ℕ → ℕ → Type 0
EndsAt skip at s end = (inside value rest : List ℕ) × Spells inside value × (drop skip s ≡ inside ++ (34 ∷ rest)) × (end ≡ at + skip + length inside + 1)

abbrev some_place : ℕ → Option ℕ
some_place n = Some n

no_place : (n : ℕ) → None ≡ some_place n → ⊥
no_place n h = cc

same_place : (m n : ℕ) → some_place m ≡ some_place n → m ≡ n
same_place m n h = cc

ends_then : (part : List ℕ) (b at : ℕ) (s : List ℕ) (end : ℕ) (k : ℕ) → IsPart (part ++ take k s) b → k ≤ length s → length part ≡ 1 → EndsAt k (at + 1) s end → EndsAt 0 at (part ++ s) end
ends_then part b at s end k is fits one (inside, value, rest, spells, e, place) = (
  (part ++ take k s) ++ inside,
  b ∷ value,
  rest,
  (part ++ take k s, inside, is, spells, refl),
  ap (λ t. part ++ t) (sym (take-append-drop k s) ∙ ap (λ t. take k s ++ t) e) ∙ simp append_assoc,
  omega (arith, place, length-append (part ++ take k s) inside, length-append part (take k s), length-take-le k s fits),
)

sound_escape : (at : ℕ) (s : List ℕ) (end : ℕ) (o : Option Escape) → escape_at s ≡ o → ((k : ℕ) → inside_end k (at + 1) s ≡ Some end → EndsAt k (at + 1) s end) → option_map_or (λ e. inside_end e.len (at + 1) s) o None ≡ Some end → EndsAt 0 at (92 ∷ s) end
sound_escape at s end None is more h = absurd (no_place end h)
sound_escape at s end (Some e) is more h =
    let (part, fits) = escape_is s e is in ends_then (92 ∷ []) e.byte at s end e.len part fits refl (more e.len h)

sound_by : (b at : ℕ) (s : List ℕ) (end : ℕ) (quote line_feed backslash : Bool) → b == 34 ≡ quote → b == 10 ≡ line_feed → b == 92 ≡ backslash → ((k : ℕ) → inside_end k (at + 1) s ≡ Some end → EndsAt k (at + 1) s end) → cond quote (Some (at + 1)) (cond line_feed None (cond backslash (option_map_or (λ e. inside_end e.len (at + 1) s) (escape_at s) None) (inside_end 0 (at + 1) s))) ≡ Some end → EndsAt 0 at (b ∷ s) end
sound_by b at s end true l e is_quote is_line is_slash more h =
    ([], [], s, refl, ap (λ c. c ∷ s) (eqb-true b 34 is_quote), omega (arith, same_place (at + 1) end h))
sound_by b at s end false true e is_quote is_line is_slash more h = absurd (no_place end h)
sound_by b at s end false false true is_quote is_line is_slash more h =
    subst (λ c. EndsAt 0 at (c ∷ s) end) (sym (eqb-true b 92 is_slash)) (sound_escape at s end (escape_at s) refl more h)
sound_by b at s end false false false is_quote is_line is_slash more h =
    ends_then (b ∷ []) b at s end 0 (plain b (rw (is_quote, is_line, is_slash) refl)) (omega arith) refl (more 0 h)

sound : (s : List ℕ) (k at end : ℕ) → inside_end k at s ≡ Some end → EndsAt k at s end
sound [] k at end h = absurd (no_place end h)
sound (b ∷ s) (suc n) at end h =
    let (inside, value, rest, spells, e, place) = sound s n (at + 1) end h in (inside, value, rest, spells, e, omega (arith, place))
sound (b ∷ s) zero at end h = sound_by b at s end (b == 34) (b == 10) (b == 92) refl refl refl (λ k same. sound s k (at + 1) end same) h

-- the scan goes over parts, and reads the bytes that they stand for

abbrev Reads : List ℕ → List ℕ → List ℕ → Type 0
Reads inside value rest =
    ((at : ℕ) → inside_end 0 at (inside ++ (34 ∷ rest)) ≡ Some (at + length inside + 1)) × (inside_value 0 (inside ++ (34 ∷ rest)) ≡ value)

value_plain : (b : ℕ) (s : List ℕ) → is_plain b ≡ true → inside_value 0 (b ∷ s) ≡ b ∷ inside_value 0 s
value_plain b s h = let (quote, line_feed, backslash) = none_plain b h in rw (quote, backslash) refl

not_simple_by : (c : ℕ) (q s n t : Bool) → c == 34 ≡ q → c == 92 ≡ s → c == 110 ≡ n → c == 116 ≡ t → is_hex_digit c ≡ true → cond {A = Option ℕ} q (Some 34) (cond s (Some 92) (cond n (Some 10) (cond t (Some 9) None))) ≡ None
not_simple_by c true s n t is a b d hex = absurd (false≢true (subst (λ x. is_hex_digit x ≡ true) (eqb-true c 34 is) hex))
not_simple_by c false true n t is a b d hex = absurd (false≢true (subst (λ x. is_hex_digit x ≡ true) (eqb-true c 92 a) hex))
not_simple_by c false false true t is a b d hex = absurd (false≢true (subst (λ x. is_hex_digit x ≡ true) (eqb-true c 110 b) hex))
not_simple_by c false false false true is a b d hex = absurd (false≢true (subst (λ x. is_hex_digit x ≡ true) (eqb-true c 116 d) hex))
not_simple_by c false false false false is a b d hex = refl

not_simple : (c : ℕ) → is_hex_digit c ≡ true → escaped_byte c ≡ None
not_simple c hex = not_simple_by c (c == 34) (c == 92) (c == 110) (c == 116) refl refl refl refl hex

part_then : (part : List ℕ) (b : ℕ) (r value rest : List ℕ) → IsPart part b → Reads r value rest → Reads (part ++ r) (b ∷ value) rest
part_then part b r value rest (plain c h) (ends, values) = (
  λ at. step_plain at c (r ++ (34 ∷ rest)) h ∙ ends (at + 1) ∙ ap Some (omega arith),
  value_plain c (r ++ (34 ∷ rest)) h ∙ ap (λ t. c ∷ t) values,
)
part_then part b r value rest (escape c byte h) (ends, values) =
    (λ at. rw h (ends (at + 1 + 1) ∙ ap Some (omega arith)), rw h (ap (λ t. byte ∷ t) values))
part_then part b r value rest (code high low p q) (ends, values) = (
  λ at. rw (not_simple high p) (rw (p, q) (ends (at + 1 + 1 + 1) ∙ ap Some (omega arith))),
  rw (not_simple high p) (rw (p, q) (ap (λ t. byte_value high low ∷ t) values)),
)

reads : (value inside rest : List ℕ) → Spells inside value → Reads inside value rest
reads [] inside rest e = rw e (λ at. ap Some (omega arith), refl)
reads (b ∷ value) inside rest (part, r, is, spells, e) = rw e (part_then part b r value rest is (reads value r rest spells))

-- a string at the front of a text

pub string_covers : (front rest : List ℕ) (at : ℕ) → IsString front → spec.string_end at (front ++ rest) ≡ Some (at + length front)
string_covers front rest at (value, (inside, spells, e)) =
    rw e (rw append_assoc ((reads value inside rest spells).0 (at + 1) ∙ ap Some (omega (arith, length-append inside (34 ∷ [])))))

front_by : (b : ℕ) (s : List ℕ) (at end : ℕ) (quote : Bool) → b == 34 ≡ quote → cond quote (inside_end 0 (at + 1) s) None ≡ Some end → (front rest : List ℕ) × IsString front × (b ∷ s ≡ front ++ rest) × (end ≡ at + length front)
front_by b s at end false is h = absurd (no_place end h)
front_by b s at end true is h =
    let (inside, value, rest, spells, e, place) = sound s 0 (at + 1) end h in
    (34 ∷ (inside ++ 34 ∷ []), rest, (value, (inside, spells, refl)), ap (λ t. b ∷ t) e ∙ rw (eqb-true b 34 is) (simp append_assoc), omega (arith, place, length-append inside (34 ∷ [])))

pub string_front : (s : List ℕ) (at end : ℕ) → spec.string_end at s ≡ Some end → (front rest : List ℕ) × IsString front × (s ≡ front ++ rest) × (end ≡ at + length front)
string_front [] at end h = absurd (no_place end h)
string_front (b ∷ s) at end h = front_by b s at end (b == 34) refl h

-- the bytes that a string stands for
pub string_value_is : (text value : List ℕ) → IsStringOf value text → string_value text ≡ value
string_value_is text value (inside, spells, e) = rw e (reads value inside [] spells).1

-- a string at a place

pub string_only : (bytes : List ℕ) (at end : ℕ) → IsStringAt bytes at end → spec.string_end at (drop at bytes) ≡ Some end
string_only bytes at end h =
    let (split, place) = part_front bytes at end h.in_order h.within in
    ap (spec.string_end at) split ∙ string_covers (slice_range bytes at end) (drop end bytes) at h.string ∙ ap Some place

pub string_found : (bytes : List ℕ) (at end : ℕ) → at ≤ length bytes → spec.string_end at (drop at bytes) ≡ Some end → IsStringAt bytes at end
string_found bytes at end within h =
    let (front, rest, is, e, place) = string_front (drop at bytes) at end h in
    let (part, fits) = front_part bytes at front rest within e in
    rw place (record { in_order = omega arith; within = fits; string = rw part is })

pub string_found_by : (bytes : List ℕ) (at : ℕ) (o : Option ℕ) → at ≤ length bytes → o ≡ spec.string_end at (drop at bytes) → IfSome o (λ end. IsStringAt bytes at end)
string_found_by bytes at None within h = tt
string_found_by bytes at (Some end) within h = string_found bytes at end within (sym h)

-- reading part by part

pub value_skipped : (n : ℕ) (s : List ℕ) → inside_value n s ≡ inside_value 0 (drop n s)
value_skipped zero s = refl
value_skipped (suc n) [] = refl
value_skipped (suc n) (b ∷ s) = value_skipped n s

abbrev ValueBy : Option Escape → List ℕ → Type 0
ValueBy o s = inside_value 0 s ≡ option_map_or (λ part. part.byte ∷ inside_value 0 (drop part.len s)) o []

escaped_value : (s : List ℕ) (o : Option Escape) → escape_at s ≡ o → ValueBy (option_map (λ e. record { byte = e.byte; len = e.len + 1 }) o) (92 ∷ s)
escaped_value s None h = rw h refl
escaped_value s (Some e) h = rw h (rw add-one (ap (λ t. e.byte ∷ t) (value_skipped e.len s)))

value_by : (b : ℕ) (s : List ℕ) (quote backslash : Bool) → b == 34 ≡ quote → b == 92 ≡ backslash → ValueBy (cond quote None (cond backslash (option_map (λ e. record { byte = e.byte; len = e.len + 1 }) (escape_at s)) (Some (record { byte = b; len = 1 })))) (b ∷ s)
value_by b s true e quote backslash = rw quote refl
value_by b s false true quote backslash = subst (λ c. ValueBy (option_map (λ e. record { byte = e.byte; len = e.len + 1 }) (escape_at s)) (c ∷ s)) (sym (eqb-true b 92 backslash)) (escaped_value s (escape_at s) refl)
value_by b s false false quote backslash = rw (quote, backslash) refl

-- the value is that of the first part and that of the rest
pub value_step : (s : List ℕ) (o : Option Escape) → 0 < length s → o ≡ part_at s → ValueBy o s
value_step [] o some h = absurd (omega arith)
value_step (b ∷ s) o some h = rw h (value_by b s (b == 34) (b == 92) refl refl)

pub part_step : (text : List ℕ) (at : ℕ) (part : Escape) → at < length text → Some part ≡ part_at (drop at text) → inside_value 0 (drop at text) ≡ part.byte ∷ inside_value 0 (drop (at + part.len) text)
part_step text at part within h = value_step (drop at text) (Some part) (omega (arith, length-drop at text)) h ∙ rw drop-drop refl

front_some : (front : List ℕ) → IsString front → 0 < length front
front_some front (value, (inside, spells, e)) = omega (arith, ap length e)

-- a string has a byte
pub string_some : (bytes : List ℕ) (at : ℕ) (o : Option ℕ) → o ≡ spec.string_end at (drop at bytes) → IfSome o (λ end. at < end)
string_some bytes at None h = tt
string_some bytes at (Some end) h =
    let (front, rest, is, e, place) = string_front (drop at bytes) at end (sym h) in let some = front_some front is in omega (arith, place)
