-- The texts of types and attributes are UTF-8.
use Rattle.std.proofs.Common.{◌≡◌, ℕ, zero, suc, ◌+◌, ◌/◌, ◌%◌, ◌<◌, Bool, true, false, cond, not, if◌then◌else◌, List, [], ◌∷◌, ◌++◌, refl, sym, subst, arith, inl, inr}
use Rattle.std.specs.Prelude.{◌⊎◌, codes, decimal, IsUtf8, IsAscii, Option, Some, None, ◌==◌, ◌&&◌, nat_le, nat_lt}
use Rattle.std.specs.List.{AllByRecursion, flat_map, list_all}
use Rattle.std.proofs.lemmas.Bool.{and_parts}
use Rattle.std.proofs.lemmas.Bool.Decides.{nat_tests}
use Rattle.std.proofs.lemmas.Str.{IsUtf8-append, IsUtf8-from_ascii}
use Rattle.std.proofs.lemmas.Fmt.{IsAscii-decimal, IsAscii-decimal_wide}
use Rattle.text_scan.specs.Bytes.{AllAre, is_word_byte, is_word_start, is_digit}
use Rattle.text_scan.specs.Hexadecimal.{is_hex_digit}
use Rattle.mlir_lexer.specs.Forms.{HasForm, AreSome, IsExponent, is_exponent_mark, is_sign}
use Rattle.mlir_lexer.specs.declared.token.TokenKind.TheVariants as k
use Rattle.mlir_tree.specs.declared.sign.Sign.{Sign}
use Rattle.mlir_tree.specs.declared.sign.Sign.TheVariants.{Signless, Signed, Unsigned}
use Rattle.mlir_tree.specs.declared.number.Number.{Number}
use Rattle.mlir_tree.specs.Tree.{Ty, int, index, func, word, Tys, no_tys, ty_then, Attr, unit, int_attr, num, str, sym as symbols, of_ty, array, dict, kept, Attrs, no_attrs, attr_then, Entries, no_entries, entry_then}
use Rattle.mlir_tree.specs.Range.{IsInRange}
use Rattle.mlir_print.specs.Text.{hex_digit, byte_text, string_text, is_bare, name_text, sign_text, stands_bare, results_by, ty_text, tys_text, more_tys_text, number_text, colon_type_text, typed_text, is_bit, bit_text, int_text, more_symbols_text, symbols_text, is_unit, entry_by, attr_text, attrs_text, more_attrs_text, entries_text, more_entries_text}
use Rattle.mlir_attributes.specs.Attributes.{signed_text}
use Rattle.round_trip.specs.Printable.{AreBytes, IsTyped, IsNumberText, IsPrintableTy, ArePrintableTys, IsPrintableAttr, ArePrintableAttrs, ArePrintableEntries}
use Rattle.round_trip.proofs.Types.{small_width}
use Rattle.round_trip.proofs.Numbers.{in_range}

-- ---- ASCII

abbrev pub AreAscii : List ℕ → Type 0
AreAscii text = AllByRecursion (λ b. b < 128) text

ascii_at : (text : List ℕ) → AreAscii text → IsAscii text
ascii_at [] h i = omega arith
ascii_at (b ∷ text) h zero = h.0
ascii_at (b ∷ text) h (suc i) = ascii_at text h.1 i

pub ascii : (text : List ℕ) → AreAscii text → IsUtf8 text
ascii text h = IsUtf8-from_ascii text (ascii_at text h)

of_test : (text : List ℕ) → list_all (λ b. nat_lt b 128) text ≡ true → AreAscii text
of_test [] h = tt
of_test (b ∷ text) h = let parts = and_parts (nat_lt b 128) (list_all (λ b. nat_lt b 128) text) h in (ltb b parts.0, of_test text parts.1)
  where
    ltb : (b : ℕ) → nat_lt b 128 ≡ true → b < 128
    ltb b h = grind (arith, nat_tests)

-- a text of plain characters
pub written : (text : List ℕ) → list_all (λ b. nat_lt b 128) text ≡ true → IsUtf8 text
written text h = ascii text (of_test text h)

pub both : {a b : List ℕ} → IsUtf8 a → IsUtf8 b → IsUtf8 (a ++ b)
both {a} {b} x y = IsUtf8-append a b x y

class_ascii : (test : ℕ → Bool) (text : List ℕ) → ((c : ℕ) → test c ≡ true → c < 128) → AllAre test text → AreAscii text
class_ascii test [] low h = tt
class_ascii test (b ∷ text) low h = (low b h.0, class_ascii test text low h.1)

join_ascii : (a b : List ℕ) → AreAscii a → AreAscii b → AreAscii (a ++ b)
join_ascii [] b x y = y
join_ascii (c ∷ a) b x y = (x.0, join_ascii a b x.1 y)

word_low : (c : ℕ) → is_word_byte c ≡ true → c < 128
word_low c h = grind (arith, nat_tests)

start_low : (c : ℕ) → is_word_start c ≡ true → c < 128
start_low c h = grind (arith, nat_tests)

digit_low : (c : ℕ) → is_digit c ≡ true → c < 128
digit_low c h = grind (arith, nat_tests)

hex_low : (c : ℕ) → is_hex_digit c ≡ true → c < 128
hex_low c h = grind (arith, nat_tests)

mark_low : (c : ℕ) → is_exponent_mark c ≡ true → c < 128
mark_low c h = grind (arith, nat_tests)

sign_low : (c : ℕ) → is_sign c ≡ true → c < 128
sign_low c h = grind (arith, nat_tests)

-- ---- strings and names

digit_byte : (n : ℕ) → n < 16 → hex_digit n < 128
digit_byte n h = by_test (nat_lt n 10)
  where
    by_test : (p : Bool) → cond p (48 + n) (55 + n) < 128
    by_test true = omega arith
    by_test false = omega arith

part_by : (b : ℕ) → b < 256 → (slash printable : Bool) → b == 92 ≡ slash → (nat_le 32 b && (nat_le b 126 && not (b == 34))) ≡ printable → AreAscii (cond slash (92 ∷ 92 ∷ []) (cond printable (b ∷ []) (92 ∷ hex_digit (b / 16) ∷ hex_digit (b % 16) ∷ [])))
part_by b small true printable is p = (omega arith, (omega arith, tt))
part_by b small false true is p = (grind (arith, nat_tests), tt)
part_by b small false false is p = (omega arith, (digit_byte (b / 16) (omega arith), (digit_byte (b % 16) (omega arith), tt)))

inside_ascii : (bytes : List ℕ) → AreBytes bytes → AreAscii (flat_map byte_text bytes)
inside_ascii [] h = tt
inside_ascii (b ∷ bytes) h = join_ascii (byte_text b) (flat_map byte_text bytes) (part_by b h.0 (b == 92) (nat_le 32 b && (nat_le b 126 && not (b == 34))) refl refl) (inside_ascii bytes h.1)

pub string_utf8 : (bytes : List ℕ) → AreBytes bytes → IsUtf8 (string_text bytes)
unfolding string_text
string_utf8 bytes h = ascii (string_text bytes) (omega arith, join_ascii (flat_map byte_text bytes) (34 ∷ []) (inside_ascii bytes h) (omega arith, tt))

bare_ascii : (name : List ℕ) → is_bare name ≡ true → AreAscii name
bare_ascii [] h = tt
bare_ascii (b ∷ name) h =
    let parts = and_parts (is_word_start b) (list_all is_word_byte name) h in
    (start_low b parts.0, all_of name parts.1)
  where
    all_of : (name : List ℕ) → list_all is_word_byte name ≡ true → AreAscii name
    all_of [] h = tt
    all_of (c ∷ name) h = let parts = and_parts (is_word_byte c) (list_all is_word_byte name) h in (word_low c parts.0, all_of name parts.1)

pub name_utf8 : (name : List ℕ) → AreBytes name → IsUtf8 (name_text name)
unfolding name_text
name_utf8 name h = by_test (is_bare name) refl
  where
    by_test : (p : Bool) → is_bare name ≡ p → IsUtf8 (if p then name else string_text name)
    by_test true is = ascii name (bare_ascii name is)
    by_test false is = string_utf8 name h

-- ---- types

pub sign_utf8 : (g : Sign) → IsUtf8 (sign_text g)
sign_utf8 Signless = written (codes "i") refl
sign_utf8 Signed = written (codes "si") refl
sign_utf8 Unsigned = written (codes "ui") refl

pub results_utf8 : (bare : Bool) (text : List ℕ) → IsUtf8 text → IsUtf8 (results_by bare text)
results_utf8 true text h = h
results_utf8 false text h = both (written (codes "(") refl) (both h (written (codes ")") refl))

mutual
  unfolding ty_text tys_text more_tys_text

  pub ty_utf8 : (room : ℕ) (t : Ty) → IsPrintableTy room t → IsUtf8 (ty_text t)
  ty_utf8 room (int g w) h = both (sign_utf8 g) (IsUtf8-from_ascii (decimal w) (IsAscii-decimal w (small_width w h)))
  ty_utf8 room index h = written (codes "index") refl
  ty_utf8 room (word w) h = h.1
  ty_utf8 zero (func xs ys) h = absurd h
  ty_utf8 (suc room) (func xs ys) h =
      both (written (codes "(") refl) (both (tys_utf8 room xs h.0) (both (written (codes ") -> ") refl) (results_utf8 (stands_bare ys) (tys_text ys) (tys_utf8 (if stands_bare ys then suc room else room) ys h.1))))

  pub tys_utf8 : (room : ℕ) (ts : Tys) → ArePrintableTys room ts → IsUtf8 (tys_text ts)
  tys_utf8 room no_tys h = written [] refl
  tys_utf8 room (ty_then t ts) h = both (ty_utf8 room t h.0) (more_utf8 room ts h.1)

  more_utf8 : (room : ℕ) (ts : Tys) → ArePrintableTys room ts → IsUtf8 (more_tys_text ts)
  more_utf8 room no_tys h = written [] refl
  more_utf8 room (ty_then t ts) h = both (written (codes ", ") refl) (both (ty_utf8 room t h.0) (more_utf8 room ts h.1))

-- ---- numbers

digits_some : (test : ℕ → Bool) (xs : List ℕ) → ((c : ℕ) → test c ≡ true → c < 128) → AreSome test xs → AreAscii xs
digits_some test [] low h = absurd h
digits_some test (b ∷ xs) low h = class_ascii test (b ∷ xs) low h

exponent_ascii : (ex : List ℕ) → (ex ≡ []) ⊎ IsExponent ex → AreAscii ex
exponent_ascii ex (inl none) = subst AreAscii (sym none) tt
exponent_ascii [] (inr h) = absurd h
exponent_ascii (e ∷ ds) (inr (mark, inl some)) = (mark_low e mark, digits_some is_digit ds digit_low some)
exponent_ascii (e ∷ []) (inr (mark, inr h)) = absurd h
exponent_ascii (e ∷ c ∷ ds) (inr (mark, inr (sign, some))) = (mark_low e mark, (sign_low c sign, digits_some is_digit ds digit_low some))

number_ascii : (float : Bool) (text : List ℕ) → HasForm (if float then k.Float else k.Integer) text → AreAscii text
number_ascii false text (inl some) = digits_some is_digit text digit_low some
number_ascii false text (inr (xs, some, e)) = subst AreAscii (sym e) (omega arith, (omega arith, digits_some is_hex_digit xs hex_low some))
number_ascii true text f =
    subst AreAscii (sym f.parts) (join_ascii f.whole (46 ∷ (f.fraction ++ f.exponent)) (digits_some is_digit f.whole digit_low f.has_whole)
    (omega arith, join_ascii f.fraction f.exponent (class_ascii is_digit f.fraction digit_low f.has_fraction) (exponent_ascii f.exponent f.has_exponent)))

pub signed_utf8 : (neg : Bool) (text : List ℕ) → IsUtf8 text → IsUtf8 (signed_text neg text)
signed_utf8 true text h = both (written (45 ∷ []) refl) h
signed_utf8 false text h = h

pub num_utf8 : (text : List ℕ) → IsNumberText text → IsUtf8 text
num_utf8 written_text (neg, float, text, form, sort, same) = subst IsUtf8 same (signed_utf8 neg text (ascii text (number_ascii float text form)))

colon_utf8 : (room : ℕ) (t : Ty) → IsPrintableTy room t → IsUtf8 (colon_type_text t)
colon_utf8 room t h = both (written (codes " : ") refl) (ty_utf8 room t h)

typed_utf8 : (room : ℕ) (t : Option Ty) → IsTyped room t → IsUtf8 (typed_text t)
typed_utf8 room None h = written [] refl
typed_utf8 room (Some t) h = colon_utf8 room t h

pub bit_utf8 : (neg : Bool) → IsUtf8 (if neg then codes "true" else codes "false")
bit_utf8 true = written (codes "true") refl
bit_utf8 false = written (codes "false") refl

int_utf8 : (n : Number) (t : Ty) → IsInRange t n → IsUtf8 (int_text n t)
int_utf8 n t h = by_test (is_bit t)
  where
    by_test : (bit : Bool) → IsUtf8 (if bit then bit_text n else number_text n ++ colon_type_text t)
    by_test true = bit_utf8 n.neg
    by_test false =
        let small = in_range t n h in
        both (signed_utf8 n.neg (decimal n.mag) (IsUtf8-from_ascii (decimal n.mag) (IsAscii-decimal_wide n.mag small.mag))) (colon_utf8 0 t (small.type 0))

-- ---- attributes

more_symbols_utf8 : (names : List (List ℕ)) → AllByRecursion AreBytes names → IsUtf8 (more_symbols_text names)
more_symbols_utf8 [] h = written [] refl
more_symbols_utf8 (n ∷ names) h = both (written (codes "::@") refl) (both (name_utf8 n h.0) (more_symbols_utf8 names h.1))

symbols_utf8 : (names : List (List ℕ)) → AllByRecursion AreBytes names → IsUtf8 (symbols_text names)
symbols_utf8 [] h = written [] refl
symbols_utf8 (n ∷ names) h = both (written (codes "@") refl) (both (name_utf8 n h.0) (more_symbols_utf8 names h.1))

entry_utf8 : (alone : Bool) (name text : List ℕ) → AreBytes name → IsUtf8 text → IsUtf8 (entry_by alone name text)
entry_utf8 true name text n h = name_utf8 name n
entry_utf8 false name text n h = both (name_utf8 name n) (both (written (codes " = ") refl) h)

mutual
  unfolding attr_text attrs_text more_attrs_text entries_text more_entries_text

  pub attr_utf8 : (room : ℕ) (x : Attr) → IsPrintableAttr room x → IsUtf8 (attr_text x)
  attr_utf8 room unit h = written (codes "unit") refl
  attr_utf8 room (int_attr n t) h = int_utf8 n t h
  attr_utf8 room (num text t) h = both (num_utf8 text h.0) (colon_utf8 room t h.2)
  attr_utf8 room (str bytes t) h = both (string_utf8 bytes h.0) (typed_utf8 room t h.1)
  attr_utf8 room (symbols names) h = symbols_utf8 names h.1
  attr_utf8 room (of_ty t) h = ty_utf8 room t h
  attr_utf8 room (kept text t) h = both h.1 (typed_utf8 room t h.2)
  attr_utf8 zero (array xs) h = absurd h
  attr_utf8 (suc room) (array xs) h = both (written (codes "[") refl) (both (attrs_utf8 room xs h) (written (codes "]") refl))
  attr_utf8 zero (dict es) h = absurd h
  attr_utf8 (suc room) (dict es) h = both (written (codes "{") refl) (both (entries_utf8 room es h.1) (written (codes "}") refl))

  attrs_utf8 : (room : ℕ) (xs : Attrs) → ArePrintableAttrs room xs → IsUtf8 (attrs_text xs)
  attrs_utf8 room no_attrs h = written [] refl
  attrs_utf8 room (attr_then x xs) h = both (attr_utf8 room x h.0) (more_attrs_utf8 room xs h.1)

  more_attrs_utf8 : (room : ℕ) (xs : Attrs) → ArePrintableAttrs room xs → IsUtf8 (more_attrs_text xs)
  more_attrs_utf8 room no_attrs h = written [] refl
  more_attrs_utf8 room (attr_then x xs) h = both (written (codes ", ") refl) (both (attr_utf8 room x h.0) (more_attrs_utf8 room xs h.1))

  pub entries_utf8 : (room : ℕ) (es : Entries) → ArePrintableEntries room es → IsUtf8 (entries_text es)
  entries_utf8 room no_entries h = written [] refl
  entries_utf8 room (entry_then n x es) h = both (entry_utf8 (is_unit x) n (attr_text x) h.0 (attr_utf8 room x h.1)) (more_entries_utf8 room es h.2)

  more_entries_utf8 : (room : ℕ) (es : Entries) → ArePrintableEntries room es → IsUtf8 (more_entries_text es)
  more_entries_utf8 room no_entries h = written [] refl
  more_entries_utf8 room (entry_then n x es) h = both (written (codes ", ") refl) (both (entry_utf8 (is_unit x) n (attr_text x) h.0 (attr_utf8 room x h.1)) (more_entries_utf8 room es h.2))
