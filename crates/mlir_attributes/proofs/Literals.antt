-- Which value a literal number has.
use Rattle.std.proofs.Common.{◌≡◌, ℕ, zero, suc, ◌+◌, ◌-◌, ◌<◌, ◌≤◌, ◌^◌, Bool, true, false, cond, refl, ap, sym, subst, ◌∙◌, arith, inl, inr}
use Rattle.std.specs.Prelude.{Option, Some, None, nat_lt, ◌&&◌, not}
use Rattle.std.proofs.lemmas.Bool.{lt-ltb, and_parts}
use Rattle.std.proofs.lemmas.Option.{same_Some, none-some}
use Rattle.std.proofs.Math.Nat.{pow-le-pow_right}
use Rattle.mlir_tree.specs.declared.sign.Sign.TheVariants.{Signless, Signed, Unsigned}
use Rattle.mlir_tree.specs.declared.number.Number.{Number}
use Rattle.mlir_tree.specs.Tree.{Ty, int, index, func, word}
use Rattle.mlir_tree.specs.Range.{IsInRange, IsSignedRange}
use Rattle.mlir_attributes.specs.Numbers.{if_short, signed, is_value, same_bits, by_bits, value_at}
use Rattle.mlir_attributes.specs.Attributes.{value_of}
use Rattle.mlir_attributes.specs.AttributeGrammar.{HasSameBits, HasValue}
use Rattle.mlir_attributes.proofs.Digits.{short_some, short}
use Rattle.mlir_attributes.proofs.Values.{in_range, value_from}

-- ---- the value that is found is one

bits_by : (t : Ty) (m n : Number) (b : Bool) → is_value t m ≡ b → cond b (Some m) None ≡ Some n → IsInRange t n × (m ≡ n)
bits_by t m n true is h = let same = same_Some m n h in (subst (IsInRange t) same (in_range t m is), same)
bits_by t m n false is h = absurd (none-some n h)

bits_found : (t : Ty) (m n : Number) → by_bits t m ≡ Some n → IsInRange t n × (m ≡ n)
bits_found t m n h = bits_by t m n (is_value t m) refl h

not_true : (b : Bool) → not b ≡ true → b ≡ false
not_true true e = absurd (cc)
not_true false e = refl

some_signed : (w mag : ℕ) → IsSignedRange w true mag → 0 < mag
some_signed zero mag h = absurd (cc)
some_signed (suc w) mag h = h.0

wrapped_by : (w : ℕ) (m n : Number) (p : Bool) → (not m.neg && nat_lt 0 m.mag) ≡ p → cond p (by_bits (int Signless w) (same_bits w m)) None ≡ Some n → HasValue (int Signless w) m n
wrapped_by w m n true is h =
    let found = bits_found (int Signless w) (same_bits w m) n h in
    let parts = and_parts (not m.neg) (nat_lt 0 m.mag) is in
    let neg : true ≡ n.neg = ap (λ (x : Number). x.neg) found.1 in
    let mag : 2 ^ w - m.mag ≡ n.mag = ap (λ (x : Number). x.mag) found.1 in
    let some : 0 < n.mag = some_signed w n.mag (subst (λ b. IsSignedRange w b n.mag) (sym neg) found.0.1) in
    (found.0, inr (not_true m.neg parts.0, sym neg, omega (arith, mag, some)))
wrapped_by w m n false is h = absurd (none-some n h)

signless_by : (w : ℕ) (m n : Number) (b : Bool) → is_value (int Signless w) m ≡ b → cond b (Some m) (cond (not m.neg && nat_lt 0 m.mag) (by_bits (int Signless w) (same_bits w m)) None) ≡ Some n → HasValue (int Signless w) m n
signless_by w m n true is h = let same = same_Some m n h in (subst (IsInRange (int Signless w)) same (in_range (int Signless w) m is), inl same)
signless_by w m n false is h = wrapped_by w m n (not m.neg && nat_lt 0 m.mag) refl h

pub value_sound : (t : Ty) (m n : Number) → value_at t m ≡ Some n → HasValue t m n
value_sound (int Signless w) m n h = signless_by w m n (is_value (int Signless w) m) refl h
value_sound (int Signed w) m n h = let found = bits_found (int Signed w) m n h in (found.0, inl found.1)
value_sound (int Unsigned w) m n h = let found = bits_found (int Unsigned w) m n h in (found.0, inl found.1)
value_sound index m n h = let found = bits_found index m n h in (found.0, inl found.1)
value_sound (func xs ys) m n h = absurd (none-some n h)
value_sound (word t) m n h = absurd (none-some n h)

-- ---- the value of a literal is found

bits_complete : (t : Ty) (n : Number) → IsInRange t n → by_bits t n ≡ Some n
bits_complete t n h = ap (λ b. cond b (Some n) None) (value_from t n h)

-- no signless type has a number that is wrapped
not_value : (w : ℕ) (m n : Number) → IsInRange (int Signless w) n → HasSameBits (int Signless w) m n → is_value (int Signless w) m ≡ false
not_value w m n h (pos, neg, sum) = by_test (is_value (int Signless w) m) refl
  where
    too_large : (w mag back : ℕ) → IsSignedRange w true back → mag + back ≡ 2 ^ w → IsSignedRange w false mag → ⊥
    too_large zero mag back r e f = absurd (cc)
    too_large (suc w) mag back r e f = omega (arith, r.1, e, f)

    by_test : (b : Bool) → is_value (int Signless w) m ≡ b → is_value (int Signless w) m ≡ false
    by_test true is =
        let range = in_range (int Signless w) m is in
        absurd (too_large w m.mag n.mag (subst (λ b. IsSignedRange w b n.mag) neg h.1) sum (subst (λ b. IsSignedRange w b m.mag) pos range.1))
    by_test false is = is

number_same : (m n : Number) → m.neg ≡ n.neg → m.mag ≡ n.mag → m ≡ n
number_same m n p q = λ i. record { neg = p i; mag = q i }

wrapped_complete : (w : ℕ) (m n : Number) → IsInRange (int Signless w) n → HasSameBits (int Signless w) m n → value_at (int Signless w) m ≡ Some n
wrapped_complete w m n h (pos, neg, sum) =
    let other = not_value w m n h (pos, neg, sum) in
    let back : IsSignedRange w true n.mag = subst (λ b. IsSignedRange w b n.mag) neg h.1 in
    let some : 0 < m.mag = below w m.mag n.mag back sum in
    let test : (not m.neg && nat_lt 0 m.mag) ≡ true = ap (λ b. not b && nat_lt 0 m.mag) pos ∙ lt-ltb 0 m.mag some in
    let same : same_bits w m ≡ n = number_same (same_bits w m) n (sym neg) (omega (arith, sum)) in
    rw (other, test) (ap (by_bits (int Signless w)) same ∙ bits_complete (int Signless w) n h)
  where
    below : (w mag back : ℕ) → IsSignedRange w true back → mag + back ≡ 2 ^ w → 0 < mag
    below zero mag back r e = absurd (cc)
    below (suc w) mag back r e = omega (arith, r.1, e, pow_some w)
      where
        pow_some : (w : ℕ) → 1 ≤ 2 ^ w
        pow_some zero = omega arith
        pow_some (suc w) = omega (arith, pow_some w)

pub value_complete : (t : Ty) (m n : Number) → HasValue t m n → value_at t m ≡ Some n
value_complete (int Signless w) m n (h, inl same) = rw (same, value_from (int Signless w) n h) refl
value_complete (int Signless w) m n (h, inr bits) = wrapped_complete w m n h bits
value_complete (int Signed w) m n (h, inl same) = rw same (bits_complete (int Signed w) n h)
value_complete (int Signed w) m n (h, inr bits) = absurd bits
value_complete (int Unsigned w) m n (h, inl same) = rw same (bits_complete (int Unsigned w) n h)
value_complete (int Unsigned w) m n (h, inr bits) = absurd bits
value_complete index m n (h, inl same) = rw same (bits_complete index n h)
value_complete index m n (h, inr bits) = absurd bits
value_complete (func xs ys) m n (h, bits) = absurd h
value_complete (word t) m n (h, bits) = absurd h

-- ---- such a literal is below 2^128

pow_up : (w : ℕ) → w ≤ 128 → 2 ^ w ≤ 2 ^ 128
pow_up w h = pow-le-pow_right {n = 2} (omega arith) {i = w} {j = 128} h

signed_small : (w mag : ℕ) (neg : Bool) → w ≤ 128 → IsSignedRange w neg mag → mag < 2 ^ 128
signed_small zero mag true few h = absurd (cc)
signed_small zero mag false few h = omega (arith, h.1)
signed_small (suc w) mag true few h = omega (arith, h.1, pow_up (suc w) few, h.0)
signed_small (suc w) mag false few h = omega (arith, h, pow_up (suc w) few)

in_range_small : (t : Ty) (n : Number) → IsInRange t n → n.mag < 2 ^ 128
in_range_small (int Signless w) n h = signed_small w n.mag n.neg h.0 h.1
in_range_small (int Signed w) n h = signed_small w n.mag n.neg h.0 h.1
in_range_small (int Unsigned w) n h = omega (arith, h.2, pow_up w h.0)
in_range_small index n h = signed_small 64 n.mag n.neg (omega arith) h
in_range_small (func xs ys) n h = absurd h
in_range_small (word t) n h = absurd h

wrapped_small : (t : Ty) (m n : Number) → IsInRange t n → HasSameBits t m n → m.mag < 2 ^ 128
wrapped_small (int Signless w) m n h (pos, neg, sum) =
    let some = some_signed w n.mag (subst (λ b. IsSignedRange w b n.mag) neg h.1) in
    omega (arith, sum, some, pow_up w h.0)
wrapped_small (int Signed w) m n h bits = absurd bits
wrapped_small (int Unsigned w) m n h bits = absurd bits
wrapped_small index m n h bits = absurd bits
wrapped_small (func xs ys) m n h bits = absurd bits
wrapped_small (word t) m n h bits = absurd bits

literal_small : (t : Ty) (m n : Number) → HasValue t m n → m.mag < 2 ^ 128
literal_small t m n (h, inl same) = in_range_small t m (subst (IsInRange t) (sym same) h)
literal_small t m n (h, inr bits) = wrapped_small t m n h bits

-- ---- both, for the number that a token writes

sound_by : (t : Ty) (neg : Bool) (v : ℕ) (n : Number) (o : Option ℕ) → if_short v ≡ o → value_of t neg o ≡ Some n → HasValue t (signed neg v) n
sound_by t neg v n (Some u) is h = subst (λ x. HasValue t (signed neg x) n) (short_some v u is).0 (value_sound t (signed neg u) n h)
sound_by t neg v n None is h = absurd (none-some n h)

pub literal_sound : (t : Ty) (neg : Bool) (v : ℕ) (n : Number) → value_of t neg (if_short v) ≡ Some n → HasValue t (signed neg v) n
literal_sound t neg v n h = sound_by t neg v n (if_short v) refl h

pub literal_complete : (t : Ty) (neg : Bool) (v : ℕ) (n : Number) → HasValue t (signed neg v) n → value_of t neg (if_short v) ≡ Some n
literal_complete t neg v n h = ap (value_of t neg) (short v (literal_small t (signed neg v) n h)) ∙ value_complete t (signed neg v) n h
