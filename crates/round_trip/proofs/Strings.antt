-- The text of a string spells its bytes, and is ASCII.
use Rattle.std.proofs.Common.{◌≡◌, ℕ, ◌+◌, ◌/◌, ◌%◌, ◌-◌, ◌<◌, ◌≤◌, Bool, true, false, cond, not, List, [], ◌∷◌, refl, sym, subst, arith, eqb-true}
use Rattle.std.specs.Prelude.{◌==◌, ◌&&◌, nat_le, nat_lt}
use Rattle.std.specs.List.{flat_map}
use Rattle.std.proofs.lemmas.Bool.{ltb-true, ltb-false}
use Rattle.std.proofs.lemmas.Bool.Decides.{nat_tests}
use Rattle.text_scan.specs.Bytes.{is_digit}
use Rattle.text_scan.specs.Hexadecimal.{is_hex_digit}
use Rattle.text_scan.specs.Strings.{IsPart, plain, escape, code, Spells, IsStringOf, IsString, string_value, digit_value, byte_value, is_plain}
use Rattle.text_scan.proofs.StringLaws.{string_value_is}
use Rattle.mlir_print.specs.Text.{hex_digit, byte_text, string_text}
use Rattle.round_trip.specs.Printable.{AreBytes}

-- ---- hexadecimal digits

low_digit : (n : ℕ) → n < 10 → is_digit (48 + n) ≡ true
low_digit n h = grind (arith, nat_tests)

high_digit : (n : ℕ) → 10 ≤ n → n < 16 → (is_hex_digit (55 + n) ≡ true) × ((is_digit (55 + n) ≡ false) × (nat_le 97 (55 + n) ≡ false))
high_digit n low high = grind (arith, nat_tests)

pub record IsHex (n c : ℕ) : Type 0 where
  pub digit : is_hex_digit c ≡ true
  pub value : digit_value c ≡ n

hex_by : (n : ℕ) → n < 16 → (p : Bool) → nat_lt n 10 ≡ p → IsHex n (cond p (48 + n) (55 + n))
hex_by n h true is =
    let digit = low_digit n (ltb-true n 10 is) in
    record { digit = rw digit refl; value = rw digit (let e : (48 + n) - 48 ≡ n = omega arith in e) }
hex_by n h false is =
    let (hex, (no_digit, small)) = high_digit n (ltb-false n 10 is) h in
    record { digit = hex; value = rw (no_digit, small) (let e : (55 + n) - 55 ≡ n = omega arith in e) }

hex_is : (n : ℕ) → n < 16 → IsHex n (hex_digit n)
hex_is n h = hex_by n h (nat_lt n 10) refl

-- ---- parts of a string

plain_byte : (b : ℕ) → (b == 92) ≡ false → (nat_le 32 b && (nat_le b 126 && not (b == 34))) ≡ true → is_plain b ≡ true
plain_byte b other h = grind (arith, nat_tests)

abbrev coded : ℕ → List ℕ
coded b = 92 ∷ hex_digit (b / 16) ∷ hex_digit (b % 16) ∷ []

coded_part : (b : ℕ) → b < 256 → IsPart (coded b) b
coded_part b small =
    let high = hex_is (b / 16) (omega arith) in
    let low = hex_is (b % 16) (omega arith) in
    let value : byte_value (hex_digit (b / 16)) (hex_digit (b % 16)) ≡ b = rw (high.value, low.value) (omega arith) in
    subst (IsPart (coded b)) value (code (hex_digit (b / 16)) (hex_digit (b % 16)) high.digit low.digit)

part_by : (b : ℕ) → b < 256 → (slash printable : Bool) → b == 92 ≡ slash → (nat_le 32 b && (nat_le b 126 && not (b == 34))) ≡ printable
    → IsPart (cond slash (92 ∷ 92 ∷ []) (cond printable (b ∷ []) (coded b))) b
part_by b small true printable is p = subst (IsPart (92 ∷ 92 ∷ [])) (sym (eqb-true b 92 is)) (escape 92 92 refl)
part_by b small false true is p = plain b (plain_byte b is p)
part_by b small false false is p = coded_part b small

byte_part : (b : ℕ) → b < 256 → IsPart (byte_text b) b
byte_part b small = part_by b small (b == 92) (nat_le 32 b && (nat_le b 126 && not (b == 34))) refl refl

spells : (bytes : List ℕ) → AreBytes bytes → Spells (flat_map byte_text bytes) bytes
spells [] h = refl
spells (b ∷ bytes) h = (byte_text b, flat_map byte_text bytes, byte_part b h.0, spells bytes h.1, refl)

pub string_of : (bytes : List ℕ) → AreBytes bytes → IsStringOf bytes (string_text bytes)
unfolding string_text
string_of bytes h = (flat_map byte_text bytes, spells bytes h, refl)

pub string_is : (bytes : List ℕ) → AreBytes bytes → IsString (string_text bytes)
string_is bytes h = (bytes, string_of bytes h)

pub string_means : (bytes : List ℕ) → AreBytes bytes → string_value (string_text bytes) ≡ bytes
string_means bytes h = string_value_is (string_text bytes) bytes (string_of bytes h)
