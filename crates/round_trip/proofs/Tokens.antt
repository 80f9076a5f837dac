-- Texts of tokens: each is the longest token where none of the bytes of names and numbers follows.
use Rattle.std.proofs.Common.{◌≡◌, ℕ, suc, ◌+◌, ◌<◌, Bool, true, false, cond, List, [], ◌∷◌, ◌++◌, length, drop, refl, ap, sym, subst, ◌∙◌, arith, inl, inr, append_assoc, length-append, Err}
use Rattle.std.specs.Prelude.{◌==◌, ◌&&◌, ◌||◌, ◌⊎◌, slice_index, Some}
use Rattle.std.specs.List.{prefix_len}
use Rattle.std.proofs.lemmas.Bool.{true≢false, ne_eqb, or_cases}
use Rattle.std.proofs.lemmas.Bool.Decides.{nat_tests}
use Rattle.std.proofs.lemmas.List.{drop-drop, drop_at, get_or_at}
use Rattle.text_scan.specs.Bytes.{AllAre, is_in, is_space, is_digit, is_between, is_word_start, is_word_byte, is_suffix_byte}
use Rattle.text_scan.specs.Hexadecimal.{is_hex_digit}
use Rattle.text_scan.specs.Gaps.{gap_len}
use Rattle.byte_lanes.specs.declared.class.Class.TheVariants as class
use Rattle.text_scan.specs.Strings.{IsString, Spells, string_end}
use Rattle.text_scan.proofs.Runs.{prefix_len-front}
use Rattle.text_scan.proofs.StringLaws.{string_covers}
use Rattle.mlir_lexer.specs.Forms.{AreSome, IsSuffix, IsExponent, HasForm, is_sign, is_exponent_mark}
use Rattle.mlir_lexer.specs.Scan.{token, digits, suffix_len, behind, exponent_len, fraction_len, hex_len, number, suffixed, first_token}
use Rattle.mlir_lexer.specs.declared.token.TokenKind.{TokenKind}
use Rattle.mlir_lexer.specs.declared.token.TokenKind.TheVariants as k
use Rattle.mlir_lexer.specs.declared.token.LexFault.TheVariants.{BadByte}
use Rattle.mlir_lexer.proofs.Classes.{digit_no_start, suffix_start_no_digit, digit_no_quote, suffix_start_no_quote, digit_no_sign, mark_no_digit}
use Rattle.round_trip.proofs.Places.{Begins}

-- No name and no number goes on with this text.
abbrev pub Stops : List ℕ → Type 0
Stops [] = Unit {0}
Stops (c ∷ z) = is_suffix_byte c ≡ false

-- ---- classes of bytes

or_left : (a b : Bool) → a ≡ true → (a || b) ≡ true
or_left a b h = ap (λ x. x || b) h

or_right : (a b : Bool) → b ≡ true → (a || b) ≡ true
or_right true b h = refl
or_right false b h = h

pub word_suffix : (c : ℕ) → is_word_byte c ≡ true → is_suffix_byte c ≡ true
word_suffix c h = or_left (is_word_byte c) (c == 45) h

pub digit_word : (c : ℕ) → is_digit c ≡ true → is_word_byte c ≡ true
digit_word c h = or_left _ (c == 46) (or_left _ (c == 36) (or_right (is_word_start c) (is_digit c) h))

pub start_word : (c : ℕ) → is_word_start c ≡ true → is_word_byte c ≡ true
start_word c h = or_left _ (c == 46) (or_left _ (c == 36) (or_left (is_word_start c) (is_digit c) h))

digit_suffix : (c : ℕ) → is_digit c ≡ true → is_suffix_byte c ≡ true
digit_suffix c h = word_suffix c (digit_word c h)

low_letter : (c : ℕ) → is_between 97 102 c ≡ true → is_between 97 122 c ≡ true
low_letter c h = grind (arith, nat_tests)

high_letter : (c : ℕ) → is_between 65 70 c ≡ true → is_between 65 90 c ≡ true
high_letter c h = grind (arith, nat_tests)

hex_suffix : (c : ℕ) → is_hex_digit c ≡ true → is_suffix_byte c ≡ true
hex_suffix c h = elim (or_cases (is_digit c || is_between 97 102 c) (is_between 65 70 c) h) [
  | inr high ↦ word_suffix c (start_word c (or_left _ (c == 95) (or_right (is_between 97 122 c) (is_between 65 90 c) (high_letter c high))))
  | inl low ↦ elim (or_cases (is_digit c) (is_between 97 102 c) low) [
    | inl digit ↦ digit_suffix c digit
    | inr letter ↦ word_suffix c (start_word c (or_left _ (c == 95) (or_left (is_between 97 122 c) (is_between 65 90 c) (low_letter c letter))))
  ]
]

pub no_space : (c : ℕ) → is_suffix_byte c ≡ true → is_space c ≡ false
no_space c h = grind (arith, nat_tests)

no_slash : (c : ℕ) → is_suffix_byte c ≡ true → c == 47 ≡ false
no_slash c h = grind (arith, nat_tests)

no_point : (c : ℕ) → is_suffix_byte c ≡ false → c == 46 ≡ false
no_point c h = grind (arith, nat_tests)

no_hex_mark : (c : ℕ) → is_suffix_byte c ≡ false → c == 120 ≡ false
no_hex_mark c h = grind (arith, nat_tests)

digit_no_hex_mark : (c : ℕ) → is_digit c ≡ true → c == 120 ≡ false
digit_no_hex_mark c h = grind (arith, nat_tests)

no_exponent : (c : ℕ) → is_suffix_byte c ≡ false → is_exponent_mark c ≡ false
no_exponent c h = grind (arith, nat_tests)

-- ---- runs that end

not_so : (b : Bool) → (b ≡ true → ⊥) → b ≡ false
not_so true h = absurd (h refl)
not_so false h = refl

no_run : (p : ℕ → Bool) (z : List ℕ) → ((c : ℕ) → p c ≡ true → is_suffix_byte c ≡ true) → Stops z → prefix_len p z ≡ 0
no_run p [] sub h = refl
no_run p (c ∷ z) sub h = ap (λ b. cond b (1 + prefix_len p z) 0) (not_so (p c) (λ is. true≢false (sym (sub c is) ∙ h)))

run : (p : ℕ → Bool) (xs z : List ℕ) → ((c : ℕ) → p c ≡ true → is_suffix_byte c ≡ true) → AllAre p xs → Stops z → prefix_len p (xs ++ z) ≡ length xs
run p xs z sub all h = omega (arith, prefix_len-front p xs z all, no_run p z sub h)

no_gap : (b : ℕ) (s : List ℕ) → is_suffix_byte b ≡ true → gap_len (b ∷ s) ≡ 0
no_gap b s h = rw (no_space b h, no_slash b h) refl

-- ---- words

pub word_begins : (w z : List ℕ) → HasForm k.Word w → Stops z → Begins k.Word w z
word_begins [] z h stops = absurd h
word_begins (b ∷ xs) z h stops = (
  no_gap b (xs ++ z) (word_suffix b (start_word b h.0)),
  λ at. let count : 1 + prefix_len (is_in class.Word) (xs ++ z) ≡ suc (length xs) = omega (arith, run is_word_byte xs z word_suffix h.1 stops) in
      rw h.0 (ap (token k.Word at) count),
)

-- ---- suffixes

some_suffix : (xs : List ℕ) → IsSuffix xs → 0 < length xs
some_suffix [] h = absurd h
some_suffix (b ∷ xs) h = omega arith

suffix_count : (xs z : List ℕ) → IsSuffix xs → Stops z → suffix_len (xs ++ z) ≡ length xs
suffix_count [] z h stops = absurd h
suffix_count (b ∷ xs) z (inl all) stops = rw all.0 (omega (arith, run is_digit xs z digit_suffix all.1 stops))
suffix_count (b ∷ xs) z (inr (start, all)) stops =
    rw (suffix_start_no_digit b start, start) (omega (arith, run is_suffix_byte xs z (λ c h. h) all stops))

suffixed_by : (j : TokenKind) (at n m : ℕ) → n ≡ m → 0 < m → cond (n == 0) (Err (BadByte at)) (token j at (1 + n)) ≡ token j at (suc m)
suffixed_by j at n m e some =
    let other : n == 0 ≡ false = ne_eqb n 0 (λ none. omega arith) in
    let count : 1 + n ≡ suc m = omega arith in
    rw other (ap (token j at) count)

suffixed_is : (j : TokenKind) (at : ℕ) (xs z : List ℕ) → IsSuffix xs → Stops z → suffixed j at (xs ++ z) ≡ token j at (suc (length xs))
suffixed_is j at xs z h stops = suffixed_by j at (suffix_len (xs ++ z)) (length xs) (suffix_count xs z h stops) (some_suffix xs h)

pub value_begins : (xs z : List ℕ) → IsSuffix xs → Stops z → Begins k.Value (37 ∷ xs) z
value_begins xs z h stops = (refl, λ at. suffixed_is k.Value at xs z h stops)

pub label_begins : (xs z : List ℕ) → IsSuffix xs → Stops z → Begins k.Label (94 ∷ xs) z
label_begins xs z h stops = (refl, λ at. suffixed_is k.Label at xs z h stops)

hash_begins : (xs z : List ℕ) → IsSuffix xs → Stops z → Begins k.Hash (35 ∷ xs) z
hash_begins xs z h stops = (refl, λ at. suffixed_is k.Hash at xs z h stops)

bang_begins : (xs z : List ℕ) → IsSuffix xs → Stops z → Begins k.Bang (33 ∷ xs) z
bang_begins xs z h stops = (refl, λ at. suffixed_is k.Bang at xs z h stops)

-- ---- strings and symbols

-- its end, counted from its first byte
string_len : (inside value z : List ℕ) → Spells inside value → string_end 0 (34 ∷ ((inside ++ 34 ∷ []) ++ z)) ≡ Some (length (34 ∷ (inside ++ 34 ∷ [])))
string_len inside value z spells = string_covers (34 ∷ (inside ++ 34 ∷ [])) z 0 (value, (inside, spells, refl)) ∙ ap Some (omega arith)

pub string_begins : (w z : List ℕ) → IsString w → Begins k.String w z
string_begins w z (value, (inside, spells, e)) = rw e (refl, λ at. rw (string_len inside value z spells) refl)

bare_no_quote : (xs z : List ℕ) → IsSuffix xs → slice_index (xs ++ z) 0 == 34 ≡ false
bare_no_quote [] z h = absurd h
bare_no_quote (b ∷ xs) z (inl all) = digit_no_quote b all.0
bare_no_quote (b ∷ xs) z (inr (start, all)) = suffix_start_no_quote b start

pub symbol_begins : (xs z : List ℕ) → IsSuffix xs → Stops z → Begins k.Symbol (64 ∷ xs) z
symbol_begins xs z h stops = (refl, λ at. rw (bare_no_quote xs z h) (suffixed_is k.Symbol at xs z h stops))

pub quoted_begins : (w z : List ℕ) → IsString w → Begins k.Symbol (64 ∷ w) z
quoted_begins w z (value, (inside, spells, e)) =
    let one : 1 + length (34 ∷ (inside ++ 34 ∷ [])) ≡ suc (length (34 ∷ (inside ++ 34 ∷ []))) = omega arith in
    rw e (refl, λ at. rw (string_len inside value z spells) (ap (token k.Symbol at) one))

-- ---- numbers

no_point_next : (z : List ℕ) → Stops z → slice_index z 0 == 46 ≡ false
no_point_next [] h = refl
no_point_next (c ∷ z) h = no_point c h

no_hex_next : (z : List ℕ) → Stops z → slice_index z 0 == 120 ≡ false
no_hex_next [] h = refl
no_hex_next (c ∷ z) h = no_hex_mark c h

behind_front : (xs z : List ℕ) → slice_index (xs ++ z) (length xs) ≡ slice_index z 0
behind_front [] z = refl
behind_front (b ∷ xs) z = behind_front xs z

hex_none : (p q : Bool) (m : ℕ) → q ≡ false → cond (p && q) m 0 ≡ 0
hex_none true q m h = ap (λ c. cond c m 0) h
hex_none false q m h = refl

no_hex : (xs z : List ℕ) → AreSome is_digit xs → Stops z → hex_len (xs ++ z) ≡ 0
no_hex [] z h stops = absurd h
no_hex (b ∷ []) z h stops = hex_none (b == 48) (slice_index z 0 == 120) (behind 2 (prefix_len is_hex_digit (drop 2 (b ∷ z)))) (no_hex_next z stops)
no_hex (b ∷ c ∷ xs) z h stops = hex_none (b == 48) (c == 120) (behind 2 (prefix_len is_hex_digit (xs ++ z))) (digit_no_hex_mark c h.1.0)

digit_first : (at b : ℕ) (s : List ℕ) → is_digit b ≡ true → first_token at (b ∷ s) ≡ number at (b ∷ s)
digit_first at b s h = rw (digit_no_start b h, h) refl

number_first : (at : ℕ) (xs z : List ℕ) → AreSome is_digit xs → first_token at (xs ++ z) ≡ number at (xs ++ z)
number_first at [] z h = absurd h
number_first at (b ∷ xs) z h = digit_first at b (xs ++ z) h.0

all_of : (test : ℕ → Bool) (xs : List ℕ) → AreSome test xs → AllAre test xs × (0 < length xs)
all_of test [] h = absurd h
all_of test (b ∷ xs) h = (h, omega arith)

digits_gap : (xs z : List ℕ) → AreSome is_digit xs → gap_len (xs ++ z) ≡ 0
digits_gap [] z h = absurd h
digits_gap (b ∷ xs) z h = no_gap b (xs ++ z) (digit_suffix b h.0)

pub decimal_begins : (xs z : List ℕ) → AreSome is_digit xs → Stops z → Begins k.Integer xs z
decimal_begins xs z h stops = (
  digits_gap xs z h,
  λ at. let count : digits (xs ++ z) ≡ length xs = run is_digit xs z digit_suffix (all_of is_digit xs h).0 stops in
      number_first at xs z h ∙ rw (count, behind_front xs z, no_point_next z stops, no_hex xs z h stops) refl,
)

some_behind : (n m : ℕ) → 0 < m → behind n m ≡ n + m
some_behind n m some = rw (ne_eqb m 0 (λ e. omega arith)) refl

hex_begins : (xs z : List ℕ) → AreSome is_hex_digit xs → Stops z → Begins k.Integer (48 ∷ 120 ∷ xs) z
hex_begins xs z h stops = (
  refl,
  λ at. let (all, some) = all_of is_hex_digit xs h in
      let count : prefix_len is_hex_digit (xs ++ z) ≡ length xs = run is_hex_digit xs z hex_suffix all stops in
      let two : behind 2 (prefix_len is_hex_digit (xs ++ z)) ≡ suc (suc (length xs)) = ap (behind 2) count ∙ some_behind 2 (length xs) some ∙ omega arith in
      rw (two, ne_eqb (suc (suc (length xs))) 0 (λ none. omega arith)) refl,
)

pub integer_begins : (w z : List ℕ) → HasForm k.Integer w → Stops z → Begins k.Integer w z
integer_begins w z (inl some) stops = decimal_begins w z some stops
integer_begins w z (inr (xs, some, e)) stops = subst (λ t. Begins k.Integer t z) (sym e) (hex_begins xs z some stops)

-- ---- floats

no_digit : (c : ℕ) (s : List ℕ) → is_digit c ≡ false → digits (c ∷ s) ≡ 0
no_digit c s h = ap (λ b. cond b (1 + digits s) 0) h

exponent_none : (z : List ℕ) → Stops z → exponent_len z ≡ 0
exponent_none [] h = refl
exponent_none (c ∷ z) h = rw (no_exponent c h) refl

digits_no_sign : (ds z : List ℕ) → AreSome is_digit ds → is_sign (slice_index (ds ++ z) 0) ≡ false
digits_no_sign [] z h = absurd h
digits_no_sign (d ∷ ds) z h = digit_no_sign d h.0

exponent_some : (ex z : List ℕ) → IsExponent ex → Stops z → exponent_len (ex ++ z) ≡ length ex
exponent_some [] z h stops = absurd h
exponent_some (e ∷ ds) z (mark, inl some) stops =
    let (all, any) = all_of is_digit ds some in
    let count : digits (ds ++ z) ≡ length ds = run is_digit ds z digit_suffix all stops in
    rw (mark, digits_no_sign ds z some, count, some_behind 1 (length ds) any) (omega arith)
exponent_some (e ∷ []) z (mark, inr h) stops = absurd h
exponent_some (e ∷ c ∷ ds) z (mark, inr (sign, some)) stops =
    let (all, any) = all_of is_digit ds some in
    let count : digits (ds ++ z) ≡ length ds = run is_digit ds z digit_suffix all stops in
    rw (mark, sign, count, some_behind 2 (length ds) any) (omega arith)

fraction_alone : (fraction z : List ℕ) → AllAre is_digit fraction → Stops z → fraction_len (fraction ++ z) ≡ length fraction
fraction_alone fraction z all stops =
    let count : digits (fraction ++ z) ≡ length fraction = run is_digit fraction z digit_suffix all stops in
    rw (count, drop_at fraction z (length fraction) refl, exponent_none z stops) (omega arith)

fraction_then : (fraction ex z : List ℕ) → AllAre is_digit fraction → IsExponent ex → Stops z → fraction_len (fraction ++ (ex ++ z)) ≡ length fraction + length ex
fraction_then fraction [] z all h stops = absurd h
fraction_then fraction (e ∷ ex) z all h stops =
    let none : digits (e ∷ (ex ++ z)) ≡ 0 = no_digit e (ex ++ z) (mark_no_digit e h.0) in
    let count : digits (fraction ++ (e ∷ (ex ++ z))) ≡ length fraction = prefix_len-front is_digit fraction (e ∷ (ex ++ z)) all ∙ omega arith in
    rw (count, drop_at fraction (e ∷ (ex ++ z)) (length fraction) refl, exponent_some (e ∷ ex) z h stops) refl

fraction_is : (fraction ex z : List ℕ) → AllAre is_digit fraction → (ex ≡ []) ⊎ IsExponent ex → Stops z → fraction_len (fraction ++ (ex ++ z)) ≡ length fraction + length ex
fraction_is fraction ex z all (inl none) stops = rw none (omega (arith, fraction_alone fraction z all stops))
fraction_is fraction ex z all (inr is) stops = fraction_then fraction ex z all is stops

float_is : (at : ℕ) (whole tail : List ℕ) → AllAre is_digit whole → number at (whole ++ (46 ∷ tail)) ≡ token k.Float at (length whole + 1 + fraction_len tail)
float_is at whole tail all =
    let count : digits (whole ++ (46 ∷ tail)) ≡ length whole = prefix_len-front is_digit whole (46 ∷ tail) all ∙ omega arith in
    let point : slice_index (whole ++ (46 ∷ tail)) (length whole) ≡ 46 = get_or_at whole 46 tail 0 (length whole) refl in
    let past : drop (length whole + 1) (whole ++ (46 ∷ tail)) ≡ tail = sym (drop-drop 1 (length whole) (whole ++ (46 ∷ tail))) ∙ ap (drop 1) (drop_at whole (46 ∷ tail) (length whole) refl) in
    rw (count, point, past) refl

float_parts : (whole fraction ex z : List ℕ) → AreSome is_digit whole → AllAre is_digit fraction → (ex ≡ []) ⊎ IsExponent ex → Stops z → Begins k.Float (whole ++ (46 ∷ (fraction ++ ex))) z
float_parts whole fraction ex z some all has stops =
    let joined : (whole ++ (46 ∷ (fraction ++ ex))) ++ z ≡ whole ++ (46 ∷ (fraction ++ (ex ++ z))) = simp append_assoc in
    let len : length whole + 1 + fraction_len (fraction ++ (ex ++ z)) ≡ length (whole ++ (46 ∷ (fraction ++ ex))) = simp length-append (omega (arith, fraction_is fraction ex z all has stops)) in (
      ap gap_len joined ∙ digits_gap whole (46 ∷ (fraction ++ (ex ++ z))) some,
      λ at. ap (first_token at) joined ∙ number_first at whole (46 ∷ (fraction ++ (ex ++ z))) some
          ∙ float_is at whole (fraction ++ (ex ++ z)) (all_of is_digit whole some).0 ∙ ap (token k.Float at) len,
    )

pub float_begins : (w z : List ℕ) → HasForm k.Float w → Stops z → Begins k.Float w z
float_begins w z f stops = subst (λ t. Begins k.Float t z) (sym f.parts) (float_parts f.whole f.fraction f.exponent z f.has_whole f.has_fraction f.has_exponent stops)

-- ---- by the form

pub bang_form : (w z : List ℕ) → HasForm k.Bang w → Stops z → Begins k.Bang w z
bang_form [] z h stops = absurd h
bang_form (b ∷ xs) z h stops = subst (λ c. Begins k.Bang (c ∷ xs) z) (sym h.0) (bang_begins xs z h.1 stops)

pub hash_form : (w z : List ℕ) → HasForm k.Hash w → Stops z → Begins k.Hash w z
hash_form [] z h stops = absurd h
hash_form (b ∷ xs) z h stops = subst (λ c. Begins k.Hash (c ∷ xs) z) (sym h.0) (hash_begins xs z h.1 stops)

pub value_form : (w z : List ℕ) → HasForm k.Value w → Stops z → Begins k.Value w z
value_form [] z h stops = absurd h
value_form (b ∷ xs) z h stops = subst (λ c. Begins k.Value (c ∷ xs) z) (sym h.0) (value_begins xs z h.1 stops)
