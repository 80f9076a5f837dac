-- The text of a sound type or attribute doesn't begin with `=`.
use Rattle.std.proofs.Common.{◌≡◌, ℕ, ◌<◌, Bool, true, false, if◌then◌else◌, List, [], ◌∷◌, ◌++◌, length, refl, ap, subst, arith, inl, inr, eqb-true}
use Rattle.std.specs.Prelude.{◌==◌, codes, decimal}
use Rattle.text_scan.specs.Bytes.{is_word_start, is_digit}
use Rattle.mlir_lexer.specs.Forms.{HasForm, AreSome}
use Rattle.mlir_lexer.specs.declared.token.TokenKind.TheVariants as k
use Rattle.mlir_tree.specs.declared.sign.Sign.TheVariants.{Signless, Signed, Unsigned}
use Rattle.mlir_tree.specs.declared.number.Number.{Number}
use Rattle.mlir_tree.specs.Tree.{Ty, int, index, func, word, Attr, unit, int_attr, num, str, sym as symbols, of_ty, array, dict, kept}
use Rattle.mlir_tree.specs.Range.{IsInRange}
use Rattle.mlir_print.specs.Text.{string_text, ty_text, is_bit, bit_text, number_text, int_text, colon_type_text, symbols_text, typed_text, attr_text}
use Rattle.mlir_attributes.specs.Attributes.{signed_text}
use Rattle.round_trip.specs.Printable.{IsNumberText, IsTypeFront, IsAttrFront}
use Rattle.round_trip.proofs.Decimals.{decimal_wide}
use Rattle.round_trip.proofs.Numbers.{in_range, number_begun}
use Rattle.round_trip.proofs.Sound.{HasSoundBody, IsSoundWord, IsSoundKept, IsSoundTy, IsSoundAttr, apart}

pub record Begins (text : List ℕ) : Type 0 where
  pub first : ℕ
  pub more : List ℕ
  pub is : text ≡ first ∷ more
  pub other : (first == 61) ≡ false

longer : (a z : List ℕ) → Begins a → Begins (a ++ z)
longer a z h = record { first = h.first; more = h.more ++ z; is = ap (λ t. t ++ z) h.is; other = h.other }

no_equal : (b : ℕ) → (b ≡ 61 → ⊥) → (b == 61) ≡ false
no_equal b h = by_test (b == 61) refl
  where
    by_test : (p : Bool) → b == 61 ≡ p → p ≡ false
    by_test true is = absurd (h (eqb-true b 61 is))
    by_test false is = refl

pub other_of : (test : ℕ → Bool) (b : ℕ) → test 61 ≡ false → test b ≡ true → (b == 61) ≡ false
other_of test b other is = no_equal b (apart test 61 b other is)

word_begins : (w : List ℕ) → HasForm k.Word w → Begins w
word_begins [] h = absurd h
word_begins (b ∷ w) h = record { first = b; more = w; is = refl; other = other_of is_word_start b refl h.0 }

bang_begins : (w : List ℕ) → HasForm k.Bang w → Begins w
bang_begins [] h = absurd h
bang_begins (b ∷ w) h = record { first = b; more = w; is = refl; other = ap (λ n. n == 61) h.0 }

hash_begins : (w : List ℕ) → HasForm k.Hash w → Begins w
hash_begins [] h = absurd h
hash_begins (b ∷ w) h = record { first = b; more = w; is = refl; other = ap (λ n. n == 61) h.0 }

type_front : (front : List ℕ) → IsTypeFront front → Begins front
type_front front (inl h) = word_begins front h.0
type_front front (inr h) = bang_begins front h

attr_front : (front : List ℕ) → IsAttrFront front → Begins front
attr_front front (inl h) = word_begins front h.0
attr_front front (inr h) = hash_begins front h

body_begins : (IsFront : List ℕ → Type 0) → ((front : List ℕ) → IsFront front → Begins front) → (text : List ℕ) → HasSoundBody IsFront text → Begins text
body_begins IsFront one text (front, b, is, h, same) = subst Begins same (longer front b (one front is))

kind_begins : (text : List ℕ) → IsSoundWord text → Begins text
kind_begins text (inl (form, is)) = word_begins text form
kind_begins text (inr (inl (form, point))) = bang_begins text form
kind_begins text (inr (inr h)) = body_begins IsTypeFront type_front text h

pub ty_begins : (t : Ty) → IsSoundTy t → Begins (ty_text t)
unfolding ty_text
ty_begins (int Signless w) h = record { first = 105; more = decimal w; is = refl; other = refl }
ty_begins (int Signed w) h = record { first = 115; more = 105 ∷ decimal w; is = refl; other = refl }
ty_begins (int Unsigned w) h = record { first = 117; more = 105 ∷ decimal w; is = refl; other = refl }
ty_begins index h = record { first = 105; more = codes "ndex"; is = refl; other = refl }
ty_begins (word w) h = kind_begins w h.0
ty_begins (func xs ys) h = record { first = 40; more = _; is = refl; other = refl }

digits_begin : (ds : List ℕ) → AreSome is_digit ds → Begins ds
digits_begin [] h = absurd h
digits_begin (d ∷ ds) h = record { first = d; more = ds; is = refl; other = other_of is_digit d refl h.0 }

number_begins : (n : Number) (t : Ty) → IsInRange t n → Begins (number_text n)
number_begins n t h = by_sign n.neg
  where
    by_sign : (b : Bool) → Begins (if b then codes "-" ++ decimal n.mag else decimal n.mag)
    by_sign true = record { first = 45; more = decimal n.mag; is = refl; other = refl }
    by_sign false = digits_begin (decimal n.mag) (decimal_wide n.mag (in_range t n h).mag).some

int_begins : (n : Number) (t : Ty) → IsInRange t n → Begins (int_text n t)
int_begins n t h = by_test (is_bit t)
  where
    by_value : (b : Bool) → Begins (if b then codes "true" else codes "false")
    by_value true = record { first = 116; more = codes "rue"; is = refl; other = refl }
    by_value false = record { first = 102; more = codes "alse"; is = refl; other = refl }

    by_test : (bit : Bool) → Begins (if bit then bit_text n else number_text n ++ colon_type_text t)
    by_test true = by_value n.neg
    by_test false = longer (number_text n) (colon_type_text t) (number_begins n t h)

num_begins : (text : List ℕ) → IsNumberText text → Begins text
num_begins written (neg, float, text, form, sort, same) = subst Begins same (by_sign neg)
  where
    by_sign : (b : Bool) → Begins (signed_text b text)
    by_sign true = record { first = 45; more = text; is = refl; other = refl }
    by_sign false = let g = number_begun float text form in record { first = g.first; more = g.more; is = g.is; other = other_of is_digit g.first refl g.digit }

symbols_begin : (names : List (List ℕ)) → 0 < length names → Begins (symbols_text names)
symbols_begin [] h = absurd (omega (arith, h))
symbols_begin (n ∷ names) h = record { first = 64; more = _; is = refl; other = refl }

string_begins : (bytes : List ℕ) → Begins (string_text bytes)
unfolding string_text
string_begins bytes = record { first = 34; more = _; is = refl; other = refl }

kept_begins : (text : List ℕ) → IsSoundKept text → Begins text
kept_begins text (inl h) = body_begins IsAttrFront attr_front text h
kept_begins text (inr (form, point)) = hash_begins text form

pub attr_begins : (x : Attr) → IsSoundAttr x → Begins (attr_text x)
unfolding attr_text
attr_begins unit h = record { first = 117; more = codes "nit"; is = refl; other = refl }
attr_begins (int_attr n t) h = int_begins n t h
attr_begins (num text t) h = longer text (colon_type_text t) (num_begins text h.0)
attr_begins (str bytes t) h = longer (string_text bytes) (typed_text t) (string_begins bytes)
attr_begins (symbols names) h = symbols_begin names h.0
attr_begins (of_ty t) h = ty_begins t h
attr_begins (array xs) h = record { first = 91; more = _; is = refl; other = refl }
attr_begins (dict es) h = record { first = 123; more = _; is = refl; other = refl }
attr_begins (kept text t) h = longer text (typed_text t) (kept_begins text h.0)
