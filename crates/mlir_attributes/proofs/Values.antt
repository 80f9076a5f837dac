-- A test that says which numbers a type has.
use Rattle.std.proofs.Common.{◌≡◌, ◌↔◌, IsTrue, ℕ, zero, suc, ◌^◌, Bool, true, false, refl, sym, ap, ◌∙◌, arith}
use Rattle.std.specs.Prelude.{◌&&◌, not, nat_lt, nat_le}
use Rattle.std.proofs.lemmas.Bool.{ltb-true, lt-ltb, leb-true, le-leb, and_parts}
use Rattle.std.proofs.lemmas.Bool.Decides.{nat_tests}
use Rattle.mlir_tree.specs.declared.sign.Sign.TheVariants.{Signless, Signed, Unsigned}
use Rattle.mlir_tree.specs.declared.number.Number.{Number}
use Rattle.mlir_tree.specs.Tree.{Ty, int, index, func, word}
use Rattle.mlir_tree.specs.Range.{IsInRange, IsSignedRange}
use Rattle.mlir_attributes.specs.Numbers.{is_value, is_signed_range}

both : {a b : Bool} → a ≡ true → b ≡ true → (a && b) ≡ true
both {a} {b} p q = ap (λ x. x && b) p ∙ q

signed_by : (w mag : ℕ) (neg : Bool) → is_signed_range w (record { neg = neg; mag = mag }) ≡ true → IsSignedRange w neg mag
signed_by zero mag true h = absurd (cc)
signed_by zero mag false h = (refl, grind (arith, nat_tests))
signed_by (suc w) mag true h = let p = and_parts (nat_lt 0 mag) (nat_le mag (2 ^ w)) h in (ltb-true 0 mag p.0, leb-true mag (2 ^ w) p.1)
signed_by (suc w) mag false h = ltb-true mag (2 ^ w) h

by_signed : (w mag : ℕ) (neg : Bool) → IsSignedRange w neg mag → is_signed_range w (record { neg = neg; mag = mag }) ≡ true
by_signed zero mag true h = absurd (cc)
by_signed zero mag false h = grind (arith, nat_tests)
by_signed (suc w) mag true h = both (lt-ltb 0 mag h.0) (le-leb mag (2 ^ w) h.1)
by_signed (suc w) mag false h = lt-ltb mag (2 ^ w) h

-- the test's yes is a fact
pub in_range : (t : Ty) (n : Number) → is_value t n ≡ true → IsInRange t n
in_range (int Signless w) n h = let p = and_parts (nat_le w 128) (is_signed_range w n) h in (leb-true w 128 p.0, signed_by w n.mag n.neg p.1)
in_range (int Signed w) n h = let p = and_parts (nat_le w 128) (is_signed_range w n) h in (leb-true w 128 p.0, signed_by w n.mag n.neg p.1)
in_range (int Unsigned w) n h =
    let p = and_parts (nat_le w 128 && not n.neg) (nat_lt n.mag (2 ^ w)) h in
    let q = and_parts (nat_le w 128) (not n.neg) p.0 in
    (leb-true w 128 q.0, not_true n.neg q.1, ltb-true n.mag (2 ^ w) p.1)
  where
    not_true : (b : Bool) → not b ≡ true → b ≡ false
    not_true true e = absurd (cc)
    not_true false e = refl
in_range index n h = signed_by 64 n.mag n.neg h
in_range (func xs ys) n h = absurd (cc)
in_range (word t) n h = absurd (cc)

pub value_from : (t : Ty) (n : Number) → IsInRange t n → is_value t n ≡ true
value_from (int Signless w) n h = both (le-leb w 128 h.0) (by_signed w n.mag n.neg h.1)
value_from (int Signed w) n h = both (le-leb w 128 h.0) (by_signed w n.mag n.neg h.1)
value_from (int Unsigned w) n h = both (both (le-leb w 128 h.0) (ap not h.1)) (lt-ltb n.mag (2 ^ w) h.2)
value_from index n h = by_signed 64 n.mag n.neg h
value_from (func xs ys) n h = absurd h
value_from (word t) n h = absurd h

same_by : (b c : Bool) → (IsTrue b → c ≡ true) → (c ≡ true → IsTrue b) → b ≡ c
same_by true c to from = sym (to refl)
same_by false true to from = from refl
same_by false false to from = refl

pub same_test : (t : Ty) (n : Number) (b : Bool) → (IsTrue b ↔ IsInRange t n) → b ≡ is_value t n
same_test t n b h = same_by b (is_value t n) (λ is. value_from t n (h.0 is)) (λ is. h.1 (in_range t n is))
