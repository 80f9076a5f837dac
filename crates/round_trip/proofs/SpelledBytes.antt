-- What strings and names stand for are bytes.
use Rattle.std.proofs.Common.{◌≡◌, ℕ, zero, suc, ◌+◌, ◌-◌, ◌/◌, ◌<◌, Bool, true, false, cond, List, [], ◌∷◌, ◌++◌, take, drop, refl, sym, subst, arith, inl, inr}
use Rattle.std.specs.Prelude.{◌==◌, nat_le, nat_lt, IsUtf8, Some, None}
use Rattle.std.proofs.lemmas.Bool.{and_parts, ltb-true}
use Rattle.std.proofs.lemmas.Bool.Decides.{nat_tests}
use Rattle.std.proofs.lemmas.Option.{same_Some, none-some}
use lib.Utf8.{scalar, scalars, encode, encodes, next, scalar_cases}
use Rattle.text_scan.specs.Bytes.{is_digit}
use Rattle.text_scan.specs.Hexadecimal.{is_hex_digit}
use Rattle.text_scan.specs.Strings.{IsPart, plain, escape, code, Spells, IsString, string_value, escaped_byte, digit_value}
use Rattle.text_scan.proofs.StringLaws.{string_value_is}
use Rattle.mlir_lexer.specs.declared.token.TokenKind.{TokenKind}
use Rattle.mlir_attributes.specs.Place.{Place}
use Rattle.mlir_attributes.specs.Grammar.{IsSpelled}
use Rattle.round_trip.specs.Printable.{AreBytes}
use Rattle.round_trip.proofs.Utf8.{AreAscii}

-- ---- lists of bytes

pub bytes_join : (a b : List ℕ) → AreBytes a → AreBytes b → AreBytes (a ++ b)
bytes_join [] b x y = y
bytes_join (c ∷ a) b x y = (x.0, bytes_join a b x.1 y)

bytes_front : (a b : List ℕ) → AreBytes (a ++ b) → AreBytes a
bytes_front [] b h = tt
bytes_front (c ∷ a) b h = (h.0, bytes_front a b h.1)

bytes_back : (a b : List ℕ) → AreBytes (a ++ b) → AreBytes b
bytes_back [] b h = h
bytes_back (c ∷ a) b h = bytes_back a b h.1

bytes_take : (n : ℕ) (a : List ℕ) → AreBytes a → AreBytes (take n a)
bytes_take zero a h = tt
bytes_take (suc n) [] h = tt
bytes_take (suc n) (c ∷ a) h = (h.0, bytes_take n a h.1)

pub bytes_drop : (n : ℕ) (a : List ℕ) → AreBytes a → AreBytes (drop n a)
bytes_drop zero a h = h
bytes_drop (suc n) [] h = tt
bytes_drop (suc n) (c ∷ a) h = bytes_drop n a h.1

pub ascii_bytes : (a : List ℕ) → AreAscii a → AreBytes a
ascii_bytes [] h = tt
ascii_bytes (c ∷ a) h = (omega (arith, h.0), ascii_bytes a h.1)

-- ---- UTF-8

small_scalar : (c : ℕ) → scalar c ≡ true → c < 1114112
small_scalar c h = elim (scalar_cases c h) [ inl low ↦ omega (arith, low) | inr high ↦ high.1 ]

encoded_by : (c : ℕ) → c < 1114112 → (a b d : Bool) → nat_lt c 128 ≡ a → nat_lt c 2048 ≡ b → nat_lt c 65536 ≡ d
    → AreBytes (cond a (c ∷ []) (cond b ((192 + c / 64) ∷ next c ∷ []) (cond d ((224 + c / 4096) ∷ next (c / 64) ∷ next c ∷ []) ((240 + c / 262144) ∷ next (c / 4096) ∷ next (c / 64) ∷ next c ∷ []))))
encoded_by c small true b d is more most = (omega (arith, ltb-true c 128 is), tt)
encoded_by c small false true d is more most = (omega (arith, ltb-true c 2048 more), (omega arith, tt))
encoded_by c small false false true is more most = (omega (arith, ltb-true c 65536 most), (omega arith, (omega arith, tt)))
encoded_by c small false false false is more most = (omega (arith, small), (omega arith, (omega arith, (omega arith, tt))))

encoded : (c : ℕ) → scalar c ≡ true → AreBytes (encode c)
unfolding encode
encoded c h = encoded_by c (small_scalar c h) (nat_lt c 128) (nat_lt c 2048) (nat_lt c 65536) refl refl refl

all_encoded : (cs : List ℕ) → scalars cs ≡ true → AreBytes (encodes cs)
all_encoded [] h = tt
all_encoded (c ∷ cs) h = let parts = and_parts (scalar c) (scalars cs) h in bytes_join (encode c) (encodes cs) (encoded c parts.0) (all_encoded cs parts.1)

pub utf8_bytes : (text : List ℕ) → IsUtf8 text → AreBytes text
utf8_bytes text (cs, (are, same)) = subst AreBytes same (all_encoded cs are)

-- ---- tokens

pub token_bytes : (j : TokenKind) (text : List ℕ) (s r : Place) → IsUtf8 s.bytes → IsSpelled j text s r → AreBytes text
token_bytes j text s r utf8 h =
    subst AreBytes h.text_is (bytes_take (h.token.end - h.token.start) (drop h.token.start s.bytes) (bytes_drop h.token.start s.bytes (utf8_bytes s.bytes utf8)))

-- ---- strings

escaped_small : (c b : ℕ) → escaped_byte c ≡ Some b → b < 256
escaped_small c b h = by_four (c == 34) (c == 92) (c == 110) (c == 116) h
  where
    of : (n : ℕ) → n < 256 → Some n ≡ Some b → b < 256
    of n small e = subst (λ x. x < 256) (same_Some n b e) small

    by_four : (p q u v : Bool) → cond p (Some 34) (cond q (Some 92) (cond u (Some 10) (cond v (Some 9) None))) ≡ Some b → b < 256
    by_four true q u v h = of 34 (omega arith) h
    by_four false true u v h = of 92 (omega arith) h
    by_four false false true v h = of 10 (omega arith) h
    by_four false false false true h = of 9 (omega arith) h
    by_four false false false false h = absurd (none-some b h)

digit_small : (c : ℕ) → is_hex_digit c ≡ true → digit_value c < 16
digit_small c h = by_digit (is_digit c) refl (nat_le 97 c) refl
  where
    by_digit : (p : Bool) → is_digit c ≡ p → (q : Bool) → nat_le 97 c ≡ q → cond p (c - 48) (cond q (c - 87) (c - 55)) < 16
    by_digit true is q most = grind (arith, nat_tests)
    by_digit false is true most = grind (arith, nat_tests)
    by_digit false is false most = grind (arith, nat_tests)

part_small : (part : List ℕ) (b : ℕ) → IsPart part b → AreBytes part → b < 256
part_small _ _ (plain b is) h = h.0
part_small _ _ (escape c b is) h = escaped_small c b is
part_small _ _ (code high low p q) h = omega (arith, digit_small high p, digit_small low q)

spelled_small : (value text : List ℕ) → Spells text value → AreBytes text → AreBytes value
spelled_small [] text h small = tt
spelled_small (b ∷ value) text (part, rest, is, spells, same) small =
    let all : AreBytes (part ++ rest) = subst AreBytes same small in
    (part_small part b is (bytes_front part rest all), spelled_small value rest spells (bytes_back part rest all))

pub string_bytes : (text : List ℕ) → IsString text → AreBytes text → AreBytes (string_value text)
string_bytes text (value, (inside, spells, same)) small =
    let all : AreBytes (34 ∷ (inside ++ 34 ∷ [])) = subst AreBytes same small in
    subst AreBytes (sym (string_value_is text value (inside, spells, same))) (spelled_small value inside spells (bytes_front inside (34 ∷ []) all.1))
