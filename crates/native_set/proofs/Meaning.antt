-- What an integer wraps to is the one number of the range that is congruent to it.
use Rattle.std.proofs.Common.{◌≡◌, ◌∙◌, ℕ, zero, suc, ◌+◌, ◌*◌, ◌-◌, ◌%◌, ◌^◌, ◌<◌, ◌≤◌, Bool, true, false, refl, sym, ap, subst, arith}
use Rattle.std.specs.Prelude.{ℤ, pos, ◌+ℤ◌, nat_lt, if◌then◌else◌}
use Rattle.std.proofs.lemmas.Bool.{ltb-true}
use Rattle.std.proofs.lemmas.Bool.Decides.{nat_tests}
use Rattle.std.proofs.lemmas.Int.{ints}
use Rattle.std.proofs.lemmas.Nat.{pow_pos, pow-add}
use Rattle.std.proofs.Math.Nat.{mod-eq_of_lt}
use borrow.Author.Differences.{same_in, same_out, sum_is_lem, neg_is}
use Rattle.mlir_tree.specs.declared.number.Number.{Number}
use Rattle.mlir_tree.specs.declared.sign.Sign.TheVariants.{Signless, Signed, Unsigned}
use Rattle.mlir_tree.specs.Tree.{Ty, int, index, func, word}
use Rattle.mlir_tree.specs.Range.{IsInRange, IsSignedRange}
use Rattle.native_set.specs.Arithmetic.{value, width, residue, natural, negated, complement, number_of, wrapped}
use Rattle.native_set.specs.Laws.{HasNumbers, AreCongruent}
use Rattle.native_set.proofs.Residues.{rest_below, same_rest, split}

double : (w : ℕ) → 2 ^ suc w ≡ 2 ^ w + 2 ^ w
double w = ap (λ n. 2 ^ n) {x = suc w} {y = w + 1} (omega arith) ∙ pow-add 2 w 1 ∙ omega arith

one_less : (w : ℕ) → 2 ^ (suc w - 1) ≡ 2 ^ w
one_less w = ap (λ n. 2 ^ n) {x = suc w - 1} {y = w} (omega arith)

lower_half : (w r : ℕ) → r < 2 ^ w → complement (suc w) r ≡ natural r
lower_half w r h =
    let test : nat_lt r (2 ^ (suc w - 1)) ≡ true = grind (arith, nat_tests, one_less w) in
    ap (λ b. if b then natural r else negated (2 ^ suc w - r)) test

upper_half : (w r : ℕ) → 2 ^ w ≤ r → complement (suc w) r ≡ negated (2 ^ suc w - r)
upper_half w r h =
    let test : nat_lt r (2 ^ (suc w - 1)) ≡ false = grind (arith, nat_tests, one_less w) in
    ap (λ b. if b then natural r else negated (2 ^ suc w - r)) test

none : (r : ℕ) → r < 1 → r ≡ 0
none r h = omega arith

abbrev IsOf : ℕ → Number → Type 0
IsOf w n = IsSignedRange w n.neg n.mag

complement_in_range : (w r : ℕ) → r < 2 ^ w → IsOf w (complement w r)
complement_in_range zero r h = subst (λ x. IsOf zero (complement zero x)) (sym (none r h)) (refl, refl)
complement_in_range (suc w) r h = by (nat_lt r (2 ^ w)) refl
  where
    by : (t : Bool) → nat_lt r (2 ^ w) ≡ t → IsOf (suc w) (complement (suc w) r)
    by true e = subst (IsOf (suc w)) (sym (lower_half w r (ltb-true r (2 ^ w) e))) (ltb-true r (2 ^ w) e)
    by false e =
        let above : 2 ^ w ≤ r = grind (arith, nat_tests) in
        subst (IsOf (suc w)) (sym (upper_half w r above)) (omega arith, omega (arith, double w))

pub in_range : (t : Ty) (z : ℤ) → HasNumbers t → IsInRange t (wrapped t z)
in_range (int Signless w) z h = (h, complement_in_range w (residue w z) (rest_below (2 ^ w) z (pow_pos w)))
in_range (int Signed w) z h = (h, complement_in_range w (residue w z) (rest_below (2 ^ w) z (pow_pos w)))
in_range (int Unsigned w) z h = (h, refl, rest_below (2 ^ w) z (pow_pos w))
in_range index z h = complement_in_range 64 (residue 64 z) (rest_below (2 ^ 64) z (pow_pos 64))
in_range (func xs ys) z h = absurd h
in_range (word s) z h = absurd h

-- how many times 2^w a number lies below its residue
complement_value : (w r : ℕ) → r < 2 ^ w → (j : ℕ) × (value (complement w r) +ℤ pos (j * 2 ^ w) ≡ pos r)
complement_value w r h = by (nat_lt r (2 ^ (w - 1)))
  where
    by : (t : Bool) → (j : ℕ) × (value (if t then natural r else negated (2 ^ w - r)) +ℤ pos (j * 2 ^ w) ≡ pos r)
    by true = (0, omega (arith, ints))
    by false = (1, omega (arith, same_in, same_out, sum_is_lem, neg_is))

natural_value : (w r : ℕ) → (j : ℕ) × (value (natural r) +ℤ pos (j * 2 ^ w) ≡ pos r)
natural_value w r = (0, omega (arith, ints))

number_value : (t : Ty) (r : ℕ) → HasNumbers t → r < 2 ^ width t → (j : ℕ) × (value (number_of t r) +ℤ pos (j * 2 ^ width t) ≡ pos r)
number_value (int Signless w) r h below = complement_value w r below
number_value (int Signed w) r h below = complement_value w r below
number_value (int Unsigned w) r h below = natural_value w r
number_value index r h below = complement_value 64 r below
number_value (func xs ys) r h below = absurd h
number_value (word s) r h below = absurd h

joined : (m r : ℕ) (v z : ℤ) (i j k : ℕ) → v +ℤ pos (i * m) ≡ pos r → z +ℤ pos (j * m) ≡ pos r +ℤ pos (k * m) → v +ℤ pos ((i + k) * m) ≡ z +ℤ pos (j * m)
joined m r v z i j k p q = omega (arith, same_in, same_out, sum_is_lem, p, q)

pub congruent : (t : Ty) (z : ℤ) → HasNumbers t → AreCongruent (2 ^ width t) (value (wrapped t z)) z
congruent t z h =
    let some = pow_pos (width t) in
    let p = split (2 ^ width t) z some in
    let q = number_value t (residue (width t) z) h (rest_below (2 ^ width t) z some) in
    (q.0 + p.1, p.0, joined (2 ^ width t) (residue (width t) z) (value (wrapped t z)) z q.0 p.0 p.1 q.1 p.2)

complement_back : (w mag : ℕ) (neg : Bool) → IsSignedRange w neg mag → complement w (residue w (value (record { neg = neg; mag = mag }))) ≡ record { neg = neg; mag = mag }
complement_back zero mag true h = absurd (cc)
complement_back zero mag false h = subst (λ x. complement zero (x % 1) ≡ natural x) (sym h.1) refl
complement_back (suc w) zero true h = absurd (omega (arith, h.0))
complement_back (suc w) (suc k) true h =
    let small : k % 2 ^ suc w ≡ k = mod-eq_of_lt (omega (arith, h.1, double w)) in
    let is : 2 ^ suc w - 1 - k % 2 ^ suc w ≡ 2 ^ suc w - suc k = omega (arith, small) in
    ap (complement (suc w)) is ∙ upper_half w (2 ^ suc w - suc k) (omega (arith, h.1, double w)) ∙ ap negated (omega (arith, h.1, double w))
complement_back (suc w) mag false h =
    ap (complement (suc w)) {x = mag % 2 ^ suc w} {y = mag} (mod-eq_of_lt (omega (arith, h, double w))) ∙ lower_half w mag h

natural_back : (w mag : ℕ) (neg : Bool) → neg ≡ false → mag < 2 ^ w → natural (residue w (value (record { neg = neg; mag = mag }))) ≡ record { neg = neg; mag = mag }
natural_back w mag true e h = absurd (cc)
natural_back w mag false e h = ap natural (mod-eq_of_lt h)

back : (t : Ty) (n : Number) → IsInRange t n → wrapped t (value n) ≡ n
back (int Signless w) n h = complement_back w n.mag n.neg h.1
back (int Signed w) n h = complement_back w n.mag n.neg h.1
back (int Unsigned w) n h = natural_back w n.mag n.neg h.1 h.2
back index n h = complement_back 64 n.mag n.neg h
back (func xs ys) n h = absurd h
back (word s) n h = absurd h

pub the_one : (t : Ty) (z : ℤ) (n : Number) → IsInRange t n → AreCongruent (2 ^ width t) (value n) z → n ≡ wrapped t z
the_one t z n h c = sym (back t n h) ∙ ap (number_of t) (same_rest (2 ^ width t) (value n) z c.0 c.1 (pow_pos (width t)) c.2)
