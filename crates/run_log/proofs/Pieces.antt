-- The pieces of a log, at the front of a text.
use Rattle.std.proofs.Common.{◌≡◌, ℕ, suc, ◌+◌, ◌-◌, ◌*◌, ◌/◌, ◌%◌, ◌^◌, ◌<◌, ◌≤◌, Bool, true, false, cond, not, List, [], ◌∷◌, ◌++◌, length, take, refl, sym, ap, ◌∙◌, arith, eqb-true, slice_index_or, append_assoc, subst}
use Rattle.std.specs.Prelude.{◌==◌, ◌&&◌, nat_le, nat_lt, decimal, slice_index}
use Rattle.std.specs.List.{prefix_len}
use Rattle.std.specs.Str.Parse.{digits_value, AllDigits}
use Rattle.std.specs.Char.{digit_value as digit_number}
use Rattle.std.proofs.lemmas.Bool.{ltb-true, ltb-false, le-leb}
use Rattle.std.proofs.lemmas.Bool.Decides.{nat_tests}
use Rattle.std.proofs.lemmas.Fmt.{decimal_is_IsNumeral}
use Rattle.std.proofs.lemmas.Str.Parse.{digit_from_value}
use Rattle.std.proofs.lemmas.Int.Digits.{digits_value_push}
use Rattle.std.proofs.Math.Seq.{take-suc}
use Rattle.text_scan.specs.Bytes.{is_digit}
use Rattle.mlir_print.specs.Text.{hex_digit, byte_text}
use Rattle.run_log.specs.Cursor.{At, Takes, EndsNumber, digit_value, byte_of}

-- ---- a byte of a string

record IsHex (n c : ℕ) : Type 0 where
  no_slash : (c == 92) ≡ false
  value : digit_value c ≡ n

hex_low : (n : ℕ) → n < 10 → IsHex n (48 + n)
hex_low n h = record {
  no_slash = grind (arith, nat_tests);
  value = rw (lt_is (48 + n) (omega arith)) (let e : ((48 + n) - 48) % 16 ≡ n = omega arith in e);
}
  where
    lt_is : (c : ℕ) → c < 65 → nat_lt c 65 ≡ true
    lt_is c h = grind (arith, nat_tests)

hex_high : (n : ℕ) → 10 ≤ n → n < 16 → IsHex n (55 + n)
hex_high n low h = record {
  no_slash = grind (arith, nat_tests);
  value = rw (ge_is (55 + n) (omega arith)) (let e : ((55 + n) - 55) % 16 ≡ n = omega arith in e);
}
  where
    ge_is : (c : ℕ) → 65 ≤ c → nat_lt c 65 ≡ false
    ge_is c h = grind (arith, nat_tests)

hex_by : (n : ℕ) → n < 16 → (p : Bool) → nat_lt n 10 ≡ p → IsHex n (cond p (48 + n) (55 + n))
hex_by n h true is = hex_low n (ltb-true n 10 is)
hex_by n h false is = hex_high n (ltb-false n 10 is) h

hex_is : (n : ℕ) → n < 16 → IsHex n (hex_digit n)
hex_is n h = hex_by n h (nat_lt n 10) refl

abbrev coded : ℕ → List ℕ
coded b = 92 ∷ hex_digit (b / 16) ∷ hex_digit (b % 16) ∷ []

byte_by : (b : ℕ) (r : List ℕ) → b < 256 → (slash printable : Bool) → b == 92 ≡ slash → byte_of (cond slash (92 ∷ 92 ∷ []) (cond printable (b ∷ []) (coded b)) ++ r) ≡ b
byte_by b r small true printable is = sym (eqb-true b 92 is)
byte_by b r small false true is = rw is refl
byte_by b r small false false is =
    let high = hex_is (b / 16) (omega arith) in
    let low = hex_is (b % 16) (omega arith) in
    rw (high.no_slash, high.value, low.value) (omega arith)

-- the byte whose text stands at the front
pub byte_front : (b : ℕ) (r : List ℕ) → b < 256 → byte_of (byte_text b ++ r) ≡ b
byte_front b r small = byte_by b r small (b == 92) (nat_le 32 b && (nat_le b 126 && not (b == 34))) refl

-- ---- a number

pub one_more_digit : (ds : List ℕ) (i d : ℕ) → i < length ds → digits_value 10 (take (i + 1) ds) ≡ digits_value 10 (take i ds) * 10 + digit_number (slice_index_or ds i d)
one_more_digit ds i d below =
    let next : take (suc i) ds ≡ take i ds ++ (slice_index_or ds i d ∷ []) = take-suc ds i d below in
    let same : i + 1 ≡ suc i = omega arith in
    ap (λ n. digits_value 10 (take n ds)) same ∙ ap (digits_value 10) next ∙ digits_value_push 10 (take i ds) (slice_index_or ds i d)

both : {p q : Bool} → p ≡ true → q ≡ true → (p && q) ≡ true
both e f = rw (e, f) refl

no_digits : (r : List ℕ) → EndsNumber r → prefix_len is_digit r ≡ 0
no_digits [] h = refl
no_digits (c ∷ r) h = rw h refl

digits_front : (ds r : List ℕ) → AllDigits 10 ds → EndsNumber r → prefix_len is_digit (ds ++ r) ≡ length ds
digits_front [] r all ends = no_digits r ends
digits_front (d ∷ ds) r all ends =
    let range = digit_from_value d all.0 in
    let more = digits_front ds r all.1 ends in
    rw (both (le-leb 48 d range.0) (le-leb d 57 range.1)) (omega (arith, more))

-- the digits at the front of a number's text and what follows
pub record IsNumberFront (n : ℕ) (text r : List ℕ) (len : ℕ) : Type 0 where
  pub is : take len text ≡ decimal n
  pub value : digits_value 10 (take len text) ≡ n

take_front : (a b : List ℕ) → take (length a) (a ++ b) ≡ a
take_front [] b = refl
take_front (x ∷ a) b = ap (λ t. x ∷ t) (take_front a b)

pub number_front : (n : ℕ) (r : List ℕ) → n < 2 ^ 64 → EndsNumber r → IsNumberFront n (decimal n ++ r) r (prefix_len is_digit (decimal n ++ r))
number_front n r small ends =
    let (is, value) = decimal_is_IsNumeral n small in
    let len = digits_front (decimal n) r is.1 ends in
    let front : take (prefix_len is_digit (decimal n ++ r)) (decimal n ++ r) ≡ decimal n = rw len (take_front (decimal n) r) in
    record { is = front; value = ap (digits_value 10) front ∙ value }

-- a number's text begins with a digit
first_by : (ds r : List ℕ) → 0 < length ds → AllDigits 10 ds → is_digit (slice_index (ds ++ r) 0) ≡ true
first_by [] r some all = absurd (omega arith)
first_by (d ∷ ds) r some all = let range = digit_from_value d all.0 in both (le-leb 48 d range.0) (le-leb d 57 range.1)

pub number_first : (n : ℕ) (r : List ℕ) → n < 2 ^ 64 → is_digit (slice_index (decimal n ++ r) 0) ≡ true
number_first n r small = let (is, value) = decimal_is_IsNumeral n small in first_by (decimal n) r is.0 is.1

-- ---- pieces one behind another

pub true_false : true ≡ false → ⊥
true_false e = cc

pub joins : (a b c : List ℕ) → (a ++ b) ++ c ≡ a ++ (b ++ c)
joins a b c = append_assoc a b c

pub takes_then : (a b c : At) (s t : List ℕ) → Takes a b s → Takes b c t → Takes a c (s ++ t)
takes_then a b c s t x y = record {
  was = λ e. x.was (y.was e);
  split = λ e. x.split (y.was e) ∙ ap (λ r. s ++ r) (y.split e) ∙ sym (joins s t c.rest);
}

pub takes_as : (a b : At) (s t : List ℕ) → Takes a b s → s ≡ t → Takes a b t
takes_as a b s t x e = subst (Takes a b) e x

pub takes_none : (a : At) → Takes a a []
takes_none a = record { was = λ e. e; split = λ e. refl }

pub takes_no : (a b : At) (s : List ℕ) → b.ok ≡ false → Takes a b s
takes_no a b s bad = record { was = λ e. absurd (true_false (sym e ∙ bad)); split = λ e. absurd (true_false (sym e ∙ bad)) }
