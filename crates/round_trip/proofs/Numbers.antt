-- The text of a number with its type spells it.
use Rattle.std.proofs.Common.{◌≡◌, ℕ, zero, suc, ◌<◌, ◌≤◌, ◌^◌, Bool, true, false, not, if◌then◌else◌, List, [], ◌∷◌, ◌++◌, refl, ap, sym, subst, ◌∙◌, arith, inl, inr, append_assoc, eqb-true}
use Rattle.std.specs.Prelude.{codes, decimal, Option, Some, None, ◌==◌, ◌&&◌, nat_lt}
use Rattle.std.proofs.lemmas.Bool.{le-ltb, ne_eqb}
use Rattle.std.proofs.lemmas.Bool.Decides.{nat_tests}
use Rattle.std.proofs.Math.Nat.{pow-le-pow_right}
use Rattle.text_scan.specs.Bytes.{is_digit}
use Rattle.mlir_lexer.specs.Forms.{HasForm, AreSome}
use Rattle.mlir_lexer.specs.declared.token.TokenKind.TheVariants as k
use Rattle.mlir_tree.specs.declared.sign.Sign.TheVariants.{Signless, Signed, Unsigned}
use Rattle.mlir_tree.specs.declared.number.Number.{Number}
use Rattle.mlir_tree.specs.Tree.{Ty, int, index, func, word, int_attr}
use Rattle.mlir_tree.specs.Range.{IsSignedRange, IsInRange}
use Rattle.mlir_print.specs.Text.{ty_text, number_text, colon_type_text, typed_text, is_bit, bit_text, int_text}
use Rattle.mlir_attributes.specs.Place.{Place, moved}
use Rattle.mlir_attributes.specs.Numbers.{token_value, signed, is_wide, is_integral}
use Rattle.mlir_attributes.specs.Attributes.{signed_text, truth}
use Rattle.mlir_attributes.specs.Grammar.{IsSpelled, IsMark, IsNot}
use Rattle.mlir_attributes.specs.AttributeGrammar.{HasValue, IsNumber, IsInt, IsNum}
use Rattle.mlir_attributes.specs.AttributeGrammar as grammar
use Rattle.round_trip.specs.Printable.{IsTyped, IsNumberText, IsPrintableTy}
use Rattle.round_trip.proofs.Places.{Is, Faces, Reads, faces, space, spelled, marked, lacks, Begins}
use Rattle.round_trip.proofs.Tokens.{Stops, word_begins, integer_begins, float_begins}
use Rattle.round_trip.proofs.Decimals.{decimal_wide, token_means}
use Rattle.round_trip.proofs.Ends.{Ends, ends_lack}
use Rattle.round_trip.proofs.Types.{ty_again}

-- ---- a type behind an attribute

-- `:` and the type
colon_again : (room : ℕ) (t : Ty) (s : Place) (z : List ℕ) → IsPrintableTy room t → Is s (colon_type_text t ++ z) → Ends z → (m : Place) × IsMark k.Colon s m × Reads (λ u v. grammar.IsTyped [] room s (Some t) v) s z
colon_again room t s z p h ends =
    let rest = ty_text t ++ z in
    let (a, colon, r1) = marked k.Colon (58 ∷ []) s (32 ∷ rest) (space 32 s (58 ∷ 32 ∷ rest) refl (faces s (32 ∷ 58 ∷ 32 ∷ rest) h)) (refl, λ at. refl) in
    let (b, type, r2) = ty_again room t (moved s a) z p (space 32 (moved s a) rest refl (faces (moved s a) (32 ∷ rest) r1)) ends in
    (moved s a, colon, (b, (moved s a, colon, type), r2))

pub typed_again : (room : ℕ) (t : Option Ty) (s : Place) (z : List ℕ) → IsTyped room t → Is s (typed_text t ++ z) → Ends z → Reads (λ u v. grammar.IsTyped [] room u t v) s z
typed_again room None s z p h ends = (s.at, (ends_lack k.Colon s z refl ends (faces s z h), refl), h)
typed_again room (Some t) s z p h ends = let (m, colon, read) = colon_again room t s z p h ends in read

pub typed_stops : (t : Option Ty) (z : List ℕ) → Ends z → Stops (typed_text t ++ z)
typed_stops None z ends = ends.stops
typed_stops (Some t) z ends = refl

pub typed_no_body : (t : Option Ty) (s : Place) (z : List ℕ) → Ends z → Is s (typed_text t ++ z) → IsNot k.Less s
typed_no_body None s z ends h = ends_lack k.Less s z refl ends (faces s z h)
typed_no_body (Some t) s z ends h =
    let rest = 58 ∷ 32 ∷ (ty_text t ++ z) in
    lacks k.Less s rest (space 32 s rest refl (faces s (32 ∷ rest) h)) refl (λ at. refl)

-- ---- numbers

-- a number begins with a digit
pub record IsBegun (text : List ℕ) : Type 0 where
  pub first : ℕ
  pub more : List ℕ
  pub is : text ≡ first ∷ more
  pub digit : is_digit first ≡ true

whole_begun : (whole t : List ℕ) (text : List ℕ) → (AllSome : IsBegun whole) → text ≡ whole ++ t → IsBegun text
whole_begun whole t text b e = record { first = b.first; more = b.more ++ t; is = e ∙ ap (λ x. x ++ t) b.is; digit = b.digit }

pub number_begun : (float : Bool) (text : List ℕ) → HasForm (if float then k.Float else k.Integer) text → IsBegun text
number_begun false [] (inl some) = absurd some
number_begun false (d ∷ ds) (inl some) = record { first = d; more = ds; is = refl; digit = some.0 }
number_begun false text (inr (xs, some, e)) = record { first = 48; more = 120 ∷ xs; is = e; digit = refl }
number_begun true text f = whole_begun f.whole (46 ∷ (f.fraction ++ f.exponent)) text (digits_begun f.whole f.has_whole) f.parts
  where
    digits_begun : (whole : List ℕ) → AreSome is_digit whole → IsBegun whole
    digits_begun [] some = absurd some
    digits_begun (d ∷ ds) some = record { first = d; more = ds; is = refl; digit = some.0 }

number_begins : (float : Bool) (text z : List ℕ) → HasForm (if float then k.Float else k.Integer) text → Stops z → Begins (if float then k.Float else k.Integer) text z
number_begins true text z form stops = float_begins text z form stops
number_begins false text z form stops = integer_begins text z form stops

digit_no_angle : (d : ℕ) → is_digit d ≡ true → d == 62 ≡ false
digit_no_angle d h = grind (arith, nat_tests)

minus_begins : (text z : List ℕ) → IsBegun text → Begins k.Minus (45 ∷ []) (text ++ z)
minus_begins text z b = (refl, λ at. rw b.is (rw (digit_no_angle b.first b.digit) refl))

number_again : (room : ℕ) (neg float : Bool) (text : List ℕ) (t : Ty) (s : Place) (z : List ℕ) → HasForm (if float then k.Float else k.Integer) text → IsPrintableTy room t
    → Faces s ((signed_text neg text ++ colon_type_text t) ++ z) → Ends z → Reads (λ u v. IsNumber [] room neg float text t u v) s z
number_again room false float text t s z form p f ends =
    let rest = colon_type_text t ++ z in
    let (a, digits, r1) = spelled (if float then k.Float else k.Integer) text s rest (subst (Faces s) (append_assoc text (colon_type_text t) z) f) (number_begins float text rest form refl) in
    let (m, colon, (b, typed, r2)) = colon_again room t (moved s a) z p r1 ends in
    (b, record { digits = s; behind = moved s a; type_is = Some t; sign = inl (refl, refl); spelled = digits; typed = typed; type = inl refl }, r2)
number_again room true float text t s z form p f ends =
    let rest = colon_type_text t ++ z in
    let joined : (45 ∷ (text ++ colon_type_text t)) ++ z ≡ 45 ∷ (text ++ rest) = ap (λ x. 45 ∷ x) (append_assoc text (colon_type_text t) z) in
    let (c, minus, r0) = marked k.Minus (45 ∷ []) s (text ++ rest) (subst (Faces s) joined f) (minus_begins text rest (number_begun float text form)) in
    let (a, digits, r1) = spelled (if float then k.Float else k.Integer) text (moved s c) rest (faces (moved s c) (text ++ rest) r0) (number_begins float text rest form refl) in
    let (m, colon, (b, typed, r2)) = colon_again room t (moved s a) z p r1 ends in
    (b, record { digits = moved s c; behind = moved s a; type_is = Some t; sign = inr (refl, minus); spelled = digits; typed = typed; type = inl refl }, r2)

pub num_again : (room : ℕ) (written : List ℕ) (t : Ty) (s : Place) (z : List ℕ) → IsNumberText written → is_integral t ≡ false → IsPrintableTy room t
    → Faces s ((written ++ colon_type_text t) ++ z) → Ends z → Reads (λ u v. IsNum [] room u written t v) s z
num_again room written t s z (neg, float, text, form, sort, same) other p f ends =
    let (e, number, rest) = number_again room neg float text t s z form p (subst (λ w. Faces s ((w ++ colon_type_text t) ++ z)) (sym same) f) ends in
    (e, (neg, float, text, number, other, sort, same), rest)

-- ---- integers

pow_up : (w : ℕ) → w ≤ 128 → 2 ^ w ≤ 2 ^ 128
pow_up w h = pow-le-pow_right {n = 2} (omega arith) {i = w} {j = 128} h

-- What the range of a type says of its numbers.
pub record IsSmall (t : Ty) (n : Number) : Type 0 where
  pub mag : n.mag < 10 ^ 64
  pub some : n.neg ≡ true → 0 < n.mag
  pub type : (room : ℕ) → IsPrintableTy room t
  pub narrow : is_wide t ≡ false

signed_small : (w mag : ℕ) (neg : Bool) → w ≤ 128 → IsSignedRange w neg mag → (mag < 10 ^ 64) × (neg ≡ true → 0 < mag)
signed_small zero mag true few h = absurd (cc)
signed_small zero mag false few h = (omega (arith, h.1), λ e. absurd (cc))
signed_small (suc w) mag true few h = (omega (arith, h.1, pow_up (suc w) few, h.0), λ e. h.0)
signed_small (suc w) mag false few h = (omega (arith, h, pow_up (suc w) few), λ e. absurd (cc))

narrow_int : (w : ℕ) → w ≤ 128 → nat_lt 128 w ≡ false
narrow_int w h = le-ltb 128 w h

pub in_range : (t : Ty) (n : Number) → IsInRange t n → IsSmall t n
in_range (int Signless w) n h =
    let (small, some) = signed_small w n.mag n.neg h.0 h.1 in record { mag = small; some = some; type = λ room. omega (arith, h.0); narrow = narrow_int w h.0 }
in_range (int Signed w) n h =
    let (small, some) = signed_small w n.mag n.neg h.0 h.1 in record { mag = small; some = some; type = λ room. omega (arith, h.0); narrow = narrow_int w h.0 }
in_range (int Unsigned w) n h =
    record { mag = omega (arith, h.2, pow_up w h.0); some = λ e. let no : true ≡ false = sym e ∙ h.1 in absurd (cc); type = λ room. omega (arith, h.0); narrow = narrow_int w h.0 }
in_range index n h =
    let (small, some) = signed_small 64 n.mag n.neg (omega arith) h in record { mag = small; some = some; type = λ room. tt; narrow = refl }
in_range (func xs ys) n h = absurd h
in_range (word t) n h = absurd h

number_same : (m n : Number) → m.neg ≡ n.neg → m.mag ≡ n.mag → m ≡ n
number_same m n p q = λ i. record { neg = p i; mag = q i }

sign_kept : (neg : Bool) (mag : ℕ) → (neg ≡ true → 0 < mag) → (neg && not (mag == 0)) ≡ neg
sign_kept true mag some = ap not (ne_eqb mag 0 (λ e. let s = some refl in omega arith))
sign_kept false mag some = refl

value_again : (t : Ty) (n : Number) → IsInRange t n → HasValue t (signed n.neg (token_value (decimal n.mag))) n
value_again t n h =
    let small = in_range t n h in
    (h, inl (ap (signed n.neg) (token_means n.mag small.mag) ∙ number_same (signed n.neg n.mag) n (sign_kept n.neg n.mag small.some) refl))

bit_type : (t : Ty) → is_bit t ≡ true → t ≡ int Signless 1
bit_type (int Signless w) h = ap (int Signless) (eqb-true w 1 h)
bit_type (int Signed w) h = absurd (cc)
bit_type (int Unsigned w) h = absurd (cc)
bit_type index h = absurd (cc)
bit_type (func xs ys) h = absurd (cc)
bit_type (word t) h = absurd (cc)

-- the two values of a bit
bit_range : (neg : Bool) (mag : ℕ) → IsSignedRange 1 neg mag → (if neg then 1 else 0) ≡ mag
bit_range true mag h = omega (arith, h.0, h.1)
bit_range false mag h = omega (arith, h)

truth_is : (n : Number) → IsInRange (int Signless 1) n → truth n.neg ≡ int_attr n (int Signless 1)
truth_is n h = ap (λ m. int_attr m (int Signless 1)) (number_same (record { neg = n.neg; mag = if n.neg then 1 else 0 }) n refl (bit_range n.neg n.mag h.1))

bit_spelled : (neg : Bool) (s : Place) (z : List ℕ) → Faces s ((if neg then codes "true" else codes "false") ++ z) → Stops z → Reads (λ u v. IsSpelled k.Word (if neg then codes "true" else codes "false") u v) s z
bit_spelled true s z f stops = spelled k.Word (codes "true") s z f (word_begins (codes "true") z (refl, (refl, (refl, (refl, tt)))) stops)
bit_spelled false s z f stops = spelled k.Word (codes "false") s z f (word_begins (codes "false") z (refl, (refl, (refl, (refl, (refl, tt))))) stops)

int_by : (room : ℕ) (n : Number) (t : Ty) (s : Place) (z : List ℕ) (bit : Bool) → is_bit t ≡ bit → IsInRange t n → Faces s ((if bit then bit_text n else number_text n ++ colon_type_text t) ++ z) → Ends z → Reads (λ u v. IsInt [] room u n t v) s z
int_by room n t s z true is h f ends =
    let type = bit_type t is in
    let (e, there, rest) = bit_spelled n.neg s z f ends.stops in
    (e, inr (n.neg, there, truth_is n (subst (λ u. IsInRange u n) type h) ∙ ap (int_attr n) (sym type)), rest)
int_by room n t s z false is h f ends =
    let small = in_range t n h in
    let (e, number, rest) = number_again room n.neg false (decimal n.mag) t s z (inl (decimal_wide n.mag small.mag).some) (small.type room) f ends in
    (e, inl (n.neg, decimal n.mag, number, small.narrow, value_again t n h), rest)

pub int_again : (room : ℕ) (n : Number) (t : Ty) (s : Place) (z : List ℕ) → IsInRange t n → Faces s (int_text n t ++ z) → Ends z → Reads (λ u v. IsInt [] room u n t v) s z
int_again room n t s z h f ends = int_by room n t s z (is_bit t) refl h f ends
