-- What the code computes is what an integer wraps to.
use Rattle.std.proofs.Common.{◌≡◌, ◌∙◌, ℕ, ◌+◌, ◌*◌, ◌-◌, ◌%◌, ◌^◌, ◌≤◌, true, refl, sym, ap, subst, arith}
use Rattle.std.specs.Prelude.{ℤ, ◌+ℤ◌, ◌*ℤ◌, neg_ℤ, Ok}
use Rattle.std.proofs.lemmas.Nat.{pow_pos}
use Rattle.mlir_tree.specs.declared.number.Number.{Number}
use Rattle.mlir_tree.specs.declared.sign.Sign.TheVariants.{Signless, Signed, Unsigned}
use Rattle.mlir_tree.specs.Tree.{Ty, int, index, func, word, Attr, int_attr}
use Rattle.mlir_tree.specs.Range.{IsInRange, IsSound}
use Rattle.mlir_tree.specs.Codes.{ty_equal}
use Rattle.native_set.specs.Arithmetic.{value, width, residue, number_of, wrapped, is_same, combined, sum, product, negative}
use Rattle.native_set.specs.Answers.{Gives}
use Rattle.native_set.specs.Laws.{HasNumbers}
use Rattle.native_set.proofs.Residues.{rest_of_sum, rest_of_product, rest_of_negative, lower}

-- a type of which a number is a value
pub has_numbers : (t : Ty) (n : Number) → IsInRange t n → HasNumbers t
has_numbers (int Signless w) n h = h.0
has_numbers (int Signed w) n h = h.0
has_numbers (int Unsigned w) n h = h.0
has_numbers index n h = tt
has_numbers (func xs ys) n h = absurd h
has_numbers (word s) n h = absurd h

pub width_fits : (t : Ty) → HasNumbers t → width t ≤ 128
width_fits (int s w) h = h
width_fits index h = omega arith
width_fits (func xs ys) h = absurd h
width_fits (word s) h = absurd h

-- the lowest bits of the residue modulo 2^128
pub low_bits : (t : Ty) (z : ℤ) (bits : ℕ) → HasNumbers t → bits ≡ residue 128 z → number_of t (bits % 2 ^ width t) ≡ wrapped t z
low_bits t z bits h e = ap (number_of t) (ap (λ n. n % 2 ^ width t) e ∙ sym (lower (width t) 128 z (width_fits t h)))

pub sum_bits : (m n : ℤ) → (residue 128 m + residue 128 n) % 2 ^ 128 ≡ residue 128 (m +ℤ n)
sum_bits m n = sym (rest_of_sum (2 ^ 128) m n (pow_pos 128))

pub product_bits : (m n : ℤ) → (residue 128 m * residue 128 n) % 2 ^ 128 ≡ residue 128 (m *ℤ n)
product_bits m n = sym (rest_of_product (2 ^ 128) m n (pow_pos 128))

pub negative_bits : (m : ℤ) → (2 ^ 128 - residue 128 m) % 2 ^ 128 ≡ residue 128 (neg_ℤ m)
negative_bits m = sym (rest_of_negative (2 ^ 128) m (pow_pos 128))

pub same_type : (t u : Ty) → t ≡ u → is_same t u ≡ true
same_type t u e = (ty_equal t u (is_same t u) refl).1 e

-- an operation of two integers of one type
pub combines : (f : ℤ → ℤ → ℤ) (m n : Number) (t u : Ty) (r : Attr) → t ≡ u → r ≡ int_attr (wrapped t (f (value m) (value n))) t → Gives (Ok r) (combined f (int_attr m t) (int_attr n u))
combines f m n t u r e is = rw (same_type t u e) is

pub adds : (a b : Attr) (m n : Number) (t u : Ty) (r : Attr) (x y : ℕ) → a ≡ int_attr m t → b ≡ int_attr n u → t ≡ u → IsSound a → x ≡ residue 128 (value m) → y ≡ residue 128 (value n) → r ≡ int_attr (number_of t ((x + y) % 2 ^ 128 % 2 ^ width t)) t → Gives (Ok r) (sum a b)
adds a b m n t u r x y first second e sound ex ey is =
    let h = has_numbers t m (subst IsSound first sound) in
    let bits : (x + y) % 2 ^ 128 ≡ residue 128 (value m +ℤ value n) = ap (λ k. (k + y) % 2 ^ 128) ex ∙ ap (λ k. (residue 128 (value m) + k) % 2 ^ 128) ey ∙ sum_bits (value m) (value n) in
    let wraps : r ≡ int_attr (wrapped t (value m +ℤ value n)) t = is ∙ ap (λ k. int_attr k t) (low_bits t (value m +ℤ value n) _ h bits) in
    subst (λ k. Gives (Ok r) (sum k b)) (sym first) (subst (λ k. Gives (Ok r) (sum (int_attr m t) k)) (sym second) (combines ◌+ℤ◌ m n t u r e wraps))

pub multiplies : (a b : Attr) (m n : Number) (t u : Ty) (r : Attr) (x y : ℕ) → a ≡ int_attr m t → b ≡ int_attr n u → t ≡ u → IsSound a → x ≡ residue 128 (value m) → y ≡ residue 128 (value n) → r ≡ int_attr (number_of t ((x * y) % 2 ^ 128 % 2 ^ width t)) t → Gives (Ok r) (product a b)
multiplies a b m n t u r x y first second e sound ex ey is =
    let h = has_numbers t m (subst IsSound first sound) in
    let bits : (x * y) % 2 ^ 128 ≡ residue 128 (value m *ℤ value n) = ap (λ k. (k * y) % 2 ^ 128) ex ∙ ap (λ k. (residue 128 (value m) * k) % 2 ^ 128) ey ∙ product_bits (value m) (value n) in
    let wraps : r ≡ int_attr (wrapped t (value m *ℤ value n)) t = is ∙ ap (λ k. int_attr k t) (low_bits t (value m *ℤ value n) _ h bits) in
    subst (λ k. Gives (Ok r) (product k b)) (sym first) (subst (λ k. Gives (Ok r) (product (int_attr m t) k)) (sym second) (combines ◌*ℤ◌ m n t u r e wraps))

pub negates : (a : Attr) (n : Number) (t : Ty) (r : Attr) (x : ℕ) → a ≡ int_attr n t → IsSound a → x ≡ residue 128 (value n) → r ≡ int_attr (number_of t ((0 + (2 ^ 128 - x)) % 2 ^ 128 % 2 ^ width t)) t → Gives (Ok r) (negative a)
negates a n t r x first sound ex is =
    let h = has_numbers t n (subst IsSound first sound) in
    let bits : (0 + (2 ^ 128 - x)) % 2 ^ 128 ≡ residue 128 (neg_ℤ (value n)) = ap (λ k. k % 2 ^ 128) (omega arith) ∙ ap (λ k. (2 ^ 128 - k) % 2 ^ 128) ex ∙ negative_bits (value n) in
    let wraps : r ≡ int_attr (wrapped t (neg_ℤ (value n))) t = is ∙ ap (λ k. int_attr k t) (low_bits t (neg_ℤ (value n)) _ h bits) in
    subst (λ k. Gives (Ok r) (negative k)) (sym first) wraps
