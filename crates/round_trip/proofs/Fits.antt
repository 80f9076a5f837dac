-- The text of a sound type or attribute fits into a body: the scan goes past it, it is UTF-8 and doesn't begin with `=`.
use Rattle.std.proofs.Common.{◌≡◌, ℕ, ◌<◌, ◌≤◌, ◌^◌, Bool, true, false, not, if◌then◌else◌, List, [], ◌∷◌, ◌++◌, refl, ap, sym, subst, ◌∙◌, arith, inl, inr, append_assoc, Option, Some, None}
use Rattle.std.specs.Prelude.{◌==◌, ◌||◌, ◌⊎◌, codes, decimal, IsUtf8}
use Rattle.std.specs.List.{AllByRecursion, list_all}
use Rattle.std.proofs.lemmas.Bool.{and_parts}
use Rattle.std.proofs.lemmas.Str.{IsUtf8-from_ascii}
use Rattle.std.proofs.lemmas.Fmt.{IsAscii-decimal, IsAscii-decimal_wide}
use Rattle.text_scan.specs.Bytes.{is_word_byte, is_word_start, is_digit}
use Rattle.text_scan.specs.Hexadecimal.{is_hex_digit}
use Rattle.mlir_lexer.specs.Forms.{HasForm, AreSome, IsExponent, is_exponent_mark, is_sign}
use Rattle.mlir_lexer.specs.declared.token.TokenKind.TheVariants as k
use Rattle.mlir_tree.specs.declared.sign.Sign.{Sign}
use Rattle.mlir_tree.specs.declared.sign.Sign.TheVariants.{Signless, Signed, Unsigned}
use Rattle.mlir_tree.specs.declared.number.Number.{Number}
use Rattle.mlir_tree.specs.Tree.{Ty, int, index, func, word, Tys, no_tys, ty_then, Attr, unit, int_attr, num, str, sym as symbols, of_ty, array, dict, kept, Attrs, no_attrs, attr_then, Entries, no_entries, entry_then}
use Rattle.mlir_tree.specs.Range.{IsInRange}
use Rattle.mlir_print.specs.Text.{string_text, is_bare, name_text, sign_text, stands_bare, results_by, ty_text, tys_text, more_tys_text, number_text, colon_type_text, typed_text, is_bit, bit_text, int_text, more_symbols_text, symbols_text, is_unit, entry_by, attr_text, attrs_text, more_attrs_text, entries_text, more_entries_text}
use Rattle.mlir_attributes.specs.Attributes.{signed_text}
use Rattle.round_trip.specs.Printable.{AreBytes, IsNumberText, IsTypeFront, IsAttrFront}
use Rattle.round_trip.proofs.Decimals.{decimal_wide}
use Rattle.round_trip.proofs.Numbers.{in_range}
use Rattle.round_trip.proofs.Strings.{string_is}
use Rattle.round_trip.proofs.Types.{small_width}
use Rattle.round_trip.proofs.Utf8.{both, written, string_utf8, name_utf8, sign_utf8, num_utf8, bit_utf8}
use Rattle.round_trip.proofs.Nesting.{IsOuter}
use Rattle.round_trip.proofs.Sound.{HasSoundBody, IsSoundWord, IsSoundKept, IsSoundTy, AreSoundTys, IsSoundType, IsSoundAttr, AreSoundAttrs, AreSoundEntries, class_outer, all_outer, word_byte_outer, word_start_outer, digit_outer, word_outer, bang_outer, hash_outer, type_front_outer, attr_front_outer}
use Rattle.round_trip.proofs.Skips.{Skips, nothing, join, plain, string, bracketed, round, square, brace, arrow}
use Rattle.round_trip.proofs.Inside.{sound_body}

pub record IsFit (text : List ℕ) : Type 0 where
  pub skips : Skips text
  pub utf8 : IsUtf8 text

fit : {a b : List ℕ} → IsFit a → IsFit b → IsFit (a ++ b)
fit {a} {b} x y = record { skips = join a b x.skips y.skips; utf8 = both x.utf8 y.utf8 }

empty : IsFit []
empty = record { skips = nothing; utf8 = written [] refl }

-- ---- bytes that are no brackets

abbrev is_outer : ℕ → Bool
is_outer b = not (b == 34 || (b == 40 || (b == 41 || (b == 60 || (b == 62 || (b == 91 || (b == 93 || (b == 123 || b == 125))))))))

outer_byte : (b : ℕ) → is_outer b ≡ true → IsOuter b
outer_byte = class_outer is_outer refl refl refl refl refl refl refl refl refl

outer_text : (text : List ℕ) → list_all is_outer text ≡ true → AllByRecursion IsOuter text
outer_text [] h = tt
outer_text (b ∷ text) h = let parts = and_parts (is_outer b) (list_all is_outer text) h in (outer_byte b parts.0, outer_text text parts.1)

hex_outer : (b : ℕ) → is_hex_digit b ≡ true → IsOuter b
hex_outer = class_outer is_hex_digit refl refl refl refl refl refl refl refl refl

mark_outer : (b : ℕ) → is_exponent_mark b ≡ true → IsOuter b
mark_outer = class_outer is_exponent_mark refl refl refl refl refl refl refl refl refl

sign_outer : (b : ℕ) → is_sign b ≡ true → IsOuter b
sign_outer = class_outer is_sign refl refl refl refl refl refl refl refl refl

join_outer : (a b : List ℕ) → AllByRecursion IsOuter a → AllByRecursion IsOuter b → AllByRecursion IsOuter (a ++ b)
join_outer [] b x y = y
join_outer (c ∷ a) b x y = (x.0, join_outer a b x.1 y)

-- ---- names and numbers

name_fit : (name : List ℕ) → AreBytes name → IsFit (name_text name)
unfolding name_text
name_fit name h = record { skips = by_test (is_bare name) refl; utf8 = name_utf8 name h }
  where
    bare_outer : (n : List ℕ) → list_all is_word_byte n ≡ true → AllByRecursion IsOuter n
    bare_outer [] e = tt
    bare_outer (c ∷ n) e = let parts = and_parts (is_word_byte c) (list_all is_word_byte n) e in (word_byte_outer c parts.0, bare_outer n parts.1)

    first_outer : (n : List ℕ) → is_bare n ≡ true → AllByRecursion IsOuter n
    first_outer [] e = tt
    first_outer (c ∷ n) e = let parts = and_parts (is_word_start c) (list_all is_word_byte n) e in (word_start_outer c parts.0, bare_outer n parts.1)

    by_test : (p : Bool) → is_bare name ≡ p → Skips (if p then name else string_text name)
    by_test true is = plain name (first_outer name is)
    by_test false is = string (string_text name) (string_is name h)

digits_outer : (test : ℕ → Bool) (xs : List ℕ) → ((c : ℕ) → test c ≡ true → IsOuter c) → AreSome test xs → AllByRecursion IsOuter xs
digits_outer test [] one h = absurd h
digits_outer test (b ∷ xs) one h = all_outer test (b ∷ xs) one h

exponent_outer : (ex : List ℕ) → (ex ≡ []) ⊎ IsExponent ex → AllByRecursion IsOuter ex
exponent_outer ex (inl none) = subst (AllByRecursion IsOuter) (sym none) tt
exponent_outer [] (inr h) = absurd h
exponent_outer (e ∷ ds) (inr (mark, inl some)) = (mark_outer e mark, digits_outer is_digit ds digit_outer some)
exponent_outer (e ∷ []) (inr (mark, inr h)) = absurd h
exponent_outer (e ∷ c ∷ ds) (inr (mark, inr (sign, some))) = (mark_outer e mark, (sign_outer c sign, digits_outer is_digit ds digit_outer some))

number_outer : (float : Bool) (text : List ℕ) → HasForm (if float then k.Float else k.Integer) text → AllByRecursion IsOuter text
number_outer false text (inl some) = digits_outer is_digit text digit_outer some
number_outer false text (inr (xs, some, e)) = subst (AllByRecursion IsOuter) (sym e) (outer_byte 48 refl, (outer_byte 120 refl, digits_outer is_hex_digit xs hex_outer some))
number_outer true text f =
    subst (AllByRecursion IsOuter) (sym f.parts) (join_outer f.whole (46 ∷ (f.fraction ++ f.exponent)) (digits_outer is_digit f.whole digit_outer f.has_whole)
    (outer_byte 46 refl, join_outer f.fraction f.exponent (all_outer is_digit f.fraction digit_outer f.has_fraction) (exponent_outer f.exponent f.has_exponent)))

signed_outer : (neg : Bool) (text : List ℕ) → AllByRecursion IsOuter text → AllByRecursion IsOuter (signed_text neg text)
signed_outer true text h = (outer_byte 45 refl, h)
signed_outer false text h = h

num_fit : (text : List ℕ) → IsNumberText text → IsFit text
num_fit written_text (neg, float, text, form, sort, same) = record {
  skips = plain written_text (subst (AllByRecursion IsOuter) same (signed_outer neg text (number_outer float text form)));
  utf8 = num_utf8 written_text (neg, float, text, form, sort, same);
}

literal_fit : (text : List ℕ) → list_all is_outer text ≡ true → IsUtf8 text → IsFit text
literal_fit text h utf8 = record { skips = plain text (outer_text text h); utf8 = utf8 }

-- ---- types

sign_fit : (g : Sign) → IsFit (sign_text g)
sign_fit Signless = literal_fit (codes "i") refl (sign_utf8 Signless)
sign_fit Signed = literal_fit (codes "si") refl (sign_utf8 Signed)
sign_fit Unsigned = literal_fit (codes "ui") refl (sign_utf8 Unsigned)

width_fit : (w : ℕ) → w ≤ 16777215 → IsFit (decimal w)
width_fit w h = record {
  skips = plain (decimal w) (all_outer is_digit (decimal w) digit_outer (decimal_wide w (omega (arith, h))).all);
  utf8 = IsUtf8-from_ascii (decimal w) (IsAscii-decimal w (small_width w h));
}

in_round : (text : List ℕ) → IsFit text → IsFit (codes "(" ++ (text ++ codes ")"))
in_round text h = record { skips = bracketed 40 41 text round h.skips; utf8 = both (written (codes "(") refl) (both h.utf8 (written (codes ")") refl)) }

results_fit : (bare : Bool) (text : List ℕ) → IsFit text → IsFit (results_by bare text)
results_fit true text h = h
results_fit false text h = in_round text h

body_fit : (IsFront : List ℕ → Type 0) → ((front : List ℕ) → IsFront front → AllByRecursion IsOuter front) → (text : List ℕ) → HasSoundBody IsFront text → Skips text
body_fit IsFront outer text (front, b, is, h, same) = subst Skips same (join front b (plain front (outer front is)) (sound_body b h))

word_skips : (text : List ℕ) → IsSoundWord text → Skips text
word_skips text (inl (form, is)) = plain text (word_outer text form)
word_skips text (inr (inl (form, point))) = plain text (bang_outer text form)
word_skips text (inr (inr h)) = body_fit IsTypeFront type_front_outer text h

arrow_fit : IsFit (codes " -> ")
arrow_fit = record { skips = arrow; utf8 = written (codes " -> ") refl }

mutual
  unfolding ty_text tys_text more_tys_text

  pub ty_fit : (t : Ty) → IsSoundTy t → IsFit (ty_text t)
  ty_fit (int g w) h = fit (sign_fit g) (width_fit w h)
  ty_fit index h = literal_fit (codes "index") refl (written (codes "index") refl)
  ty_fit (word w) h = record { skips = word_skips w h.0; utf8 = h.1 }
  ty_fit (func xs ys) h =
      subst IsFit (append_assoc (codes "(") (tys_text xs ++ codes ")") (codes " -> " ++ results_by (stands_bare ys) (tys_text ys)) ∙ ap (λ t. codes "(" ++ t) (append_assoc (tys_text xs) (codes ")") (codes " -> " ++ results_by (stands_bare ys) (tys_text ys))))
      (fit (in_round (tys_text xs) (tys_fit xs h.0)) (fit arrow_fit (results_fit (stands_bare ys) (tys_text ys) (tys_fit ys h.1))))

  tys_fit : (ts : Tys) → AreSoundTys ts → IsFit (tys_text ts)
  tys_fit no_tys h = empty
  tys_fit (ty_then t ts) h = fit (ty_fit t h.0) (more_tys_fit ts h.1)

  more_tys_fit : (ts : Tys) → AreSoundTys ts → IsFit (more_tys_text ts)
  more_tys_fit no_tys h = empty
  more_tys_fit (ty_then t ts) h = fit (literal_fit (codes ", ") refl (written (codes ", ") refl)) (fit (ty_fit t h.0) (more_tys_fit ts h.1))

-- ---- attributes

colon_fit : (t : Ty) → IsSoundTy t → IsFit (colon_type_text t)
colon_fit t h = fit (literal_fit (codes " : ") refl (written (codes " : ") refl)) (ty_fit t h)

typed_fit : (t : Option Ty) → IsSoundType t → IsFit (typed_text t)
typed_fit None h = empty
typed_fit (Some t) h = colon_fit t h

bit_fit : (neg : Bool) → IsFit (if neg then codes "true" else codes "false")
bit_fit true = literal_fit (codes "true") refl (bit_utf8 true)
bit_fit false = literal_fit (codes "false") refl (bit_utf8 false)

-- an integer has an integer type or `index`
int_sound : (t : Ty) (n : Number) → IsInRange t n → IsSoundTy t
int_sound (int g w) n h = (in_range (int g w) n h).type 0
int_sound index n h = tt
int_sound (func xs ys) n h = absurd ((in_range (func xs ys) n h).type 0)
int_sound (word text) n h = absurd h

magnitude_fit : (neg : Bool) (m : ℕ) → m < 10 ^ 64 → IsFit (if neg then codes "-" ++ decimal m else decimal m)
magnitude_fit neg m h = by_sign neg
  where
    digits : IsFit (decimal m)
    digits = record { skips = plain (decimal m) (all_outer is_digit (decimal m) digit_outer (decimal_wide m h).all); utf8 = IsUtf8-from_ascii (decimal m) (IsAscii-decimal_wide m h) }

    by_sign : (b : Bool) → IsFit (if b then codes "-" ++ decimal m else decimal m)
    by_sign true = fit (literal_fit (codes "-") refl (written (codes "-") refl)) digits
    by_sign false = digits

int_fit : (n : Number) (t : Ty) → IsInRange t n → IsFit (int_text n t)
int_fit n t h = by_test (is_bit t)
  where
    by_test : (bit : Bool) → IsFit (if bit then bit_text n else number_text n ++ colon_type_text t)
    by_test true = bit_fit n.neg
    by_test false = fit (magnitude_fit n.neg n.mag (in_range t n h).mag) (colon_fit t (int_sound t n h))

string_fit : (bytes : List ℕ) → AreBytes bytes → IsFit (string_text bytes)
string_fit bytes h = record { skips = string (string_text bytes) (string_is bytes h); utf8 = string_utf8 bytes h }

more_symbols_fit : (names : List (List ℕ)) → AllByRecursion AreBytes names → IsFit (more_symbols_text names)
more_symbols_fit [] h = empty
more_symbols_fit (n ∷ names) h = fit (literal_fit (codes "::@") refl (written (codes "::@") refl)) (fit (name_fit n h.0) (more_symbols_fit names h.1))

symbols_fit : (names : List (List ℕ)) → AllByRecursion AreBytes names → IsFit (symbols_text names)
symbols_fit [] h = empty
symbols_fit (n ∷ names) h = fit (literal_fit (codes "@") refl (written (codes "@") refl)) (fit (name_fit n h.0) (more_symbols_fit names h.1))

kept_skips : (text : List ℕ) → IsSoundKept text → Skips text
kept_skips text (inl h) = body_fit IsAttrFront attr_front_outer text h
kept_skips text (inr (form, point)) = plain text (hash_outer text form)

entry_fit : (alone : Bool) (name text : List ℕ) → AreBytes name → IsFit text → IsFit (entry_by alone name text)
entry_fit true name text n h = name_fit name n
entry_fit false name text n h = fit (name_fit name n) (fit (literal_fit (codes " = ") refl (written (codes " = ") refl)) h)

in_square : (text : List ℕ) → IsFit text → IsFit (codes "[" ++ (text ++ codes "]"))
in_square text h = record { skips = bracketed 91 93 text square h.skips; utf8 = both (written (codes "[") refl) (both h.utf8 (written (codes "]") refl)) }

in_braces : (text : List ℕ) → IsFit text → IsFit (codes "{" ++ (text ++ codes "}"))
in_braces text h = record { skips = bracketed 123 125 text brace h.skips; utf8 = both (written (codes "{") refl) (both h.utf8 (written (codes "}") refl)) }

comma_fit : IsFit (codes ", ")
comma_fit = literal_fit (codes ", ") refl (written (codes ", ") refl)

mutual
  unfolding attr_text attrs_text more_attrs_text entries_text more_entries_text

  pub attr_fit : (x : Attr) → IsSoundAttr x → IsFit (attr_text x)
  attr_fit unit h = literal_fit (codes "unit") refl (written (codes "unit") refl)
  attr_fit (int_attr n t) h = int_fit n t h
  attr_fit (num text t) h = fit (num_fit text h.0) (colon_fit t h.2)
  attr_fit (str bytes t) h = fit (string_fit bytes h.0) (typed_fit t h.1)
  attr_fit (symbols names) h = symbols_fit names h.1
  attr_fit (of_ty t) h = ty_fit t h
  attr_fit (kept text t) h = fit (record { skips = kept_skips text h.0; utf8 = h.1 }) (typed_fit t h.2)
  attr_fit (array xs) h = in_square (attrs_text xs) (attrs_fit xs h)
  attr_fit (dict es) h = in_braces (entries_text es) (entries_fit es h.1)

  attrs_fit : (xs : Attrs) → AreSoundAttrs xs → IsFit (attrs_text xs)
  attrs_fit no_attrs h = empty
  attrs_fit (attr_then x xs) h = fit (attr_fit x h.0) (more_attrs_fit xs h.1)

  more_attrs_fit : (xs : Attrs) → AreSoundAttrs xs → IsFit (more_attrs_text xs)
  more_attrs_fit no_attrs h = empty
  more_attrs_fit (attr_then x xs) h = fit comma_fit (fit (attr_fit x h.0) (more_attrs_fit xs h.1))

  entries_fit : (es : Entries) → AreSoundEntries es → IsFit (entries_text es)
  entries_fit no_entries h = empty
  entries_fit (entry_then n x es) h = fit (entry_fit (is_unit x) n (attr_text x) h.0 (attr_fit x h.1)) (more_entries_fit es h.2)

  more_entries_fit : (es : Entries) → AreSoundEntries es → IsFit (more_entries_text es)
  more_entries_fit no_entries h = empty
  more_entries_fit (entry_then n x es) h = fit comma_fit (fit (entry_fit (is_unit x) n (attr_text x) h.0 (attr_fit x h.1)) (more_entries_fit es h.2))
