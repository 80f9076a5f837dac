-- Residues of sums, products and negatives.
use Rattle.std.proofs.Common.{◌≡◌, ◌∙◌, ℕ, ◌+◌, ◌*◌, ◌-◌, ◌/◌, ◌%◌, ◌^◌, ◌<◌, ◌≤◌, refl, sym, ap, subst, arith}
use Rattle.std.specs.Prelude.{ℤ, pos, negsuc, ◌+ℤ◌, ◌*ℤ◌, neg_ℤ, unsigned_abs}
use Rattle.std.specs.Int.{int_rem_euclid}
use Rattle.std.proofs.lemmas.Int.{int_rem_euclid_is, ints}
use Rattle.std.proofs.lemmas.Nat.{pow_pos, pow-add, mul-le, mod_below, div-add-mod'}
use Rattle.std.proofs.Math.IntN.{*ℤ_comm}
use borrow.Author.Differences.{up, down, same_in, same_out, sum_is_lem, neg_is, product_is}
use Rattle.native_set.specs.Arithmetic.{residue}

abbrev pub rest : ℕ → ℤ → ℕ
rest m z = unsigned_abs (int_rem_euclid z (pos m))

-- integers that differ by a multiple of m have one residue
pub same_rest : (m : ℕ) (a b : ℤ) (j k : ℕ) → 0 < m → a +ℤ pos (j * m) ≡ b +ℤ pos (k * m) → rest m a ≡ rest m b
same_rest m a b j k some e =
    let t = down a + down b in
    let far : t * 1 ≤ t * m = mul-le t 1 t m (omega arith) some in
    let n = up a + (j + t) * m - down a in
    let from : (z : ℤ) (i : ℕ) → z +ℤ pos ((i + t) * m) ≡ pos n → rest m z ≡ n % m = λ z i h. ap unsigned_abs (int_rem_euclid_is z (pos m) m (i + t) n some refl h) in
    from a j (omega (arith, ints)) ∙ sym (from b k (omega (arith, ints)))

times : (m : ℕ) (a b c : ℤ) (j k : ℕ) → 0 < m → a +ℤ pos (j * m) ≡ b +ℤ pos (k * m) → rest m (a *ℤ c) ≡ rest m (b *ℤ c)
times m a b c j k some e =
    let sum : up a + j * m + down b ≡ up b + k * m + down a = omega (arith, same_out, sum_is_lem) in
    let above = ap (λ x. x * up c) sum in
    let below = ap (λ x. x * down c) sum in
    same_rest m (a *ℤ c) (b *ℤ c) (j * up c + k * down c) (k * up c + j * down c) some (omega (arith, same_in, sum_is_lem, product_is))

-- an integer is its residue and a multiple of m
pub split : (m : ℕ) (z : ℤ) → 0 < m → (j : ℕ) × (k : ℕ) × (z +ℤ pos (j * m) ≡ pos (rest m z) +ℤ pos (k * m))
split m (pos a) some = (0, a / m, omega (arith, ints, div-add-mod' a m))
split m (negsuc a) some =
    let small = mod_below a m some in
    (a / m + 1, 0, omega (arith, ints, div-add-mod' a m))

pub rest_of_sum : (m : ℕ) (x y : ℤ) → 0 < m → rest m (x +ℤ y) ≡ (rest m x + rest m y) % m
rest_of_sum m x y some =
    let p = split m x some in
    let q = split m y some in
    same_rest m (x +ℤ y) (pos (rest m x + rest m y)) (p.0 + q.0) (p.1 + q.1) some (omega (arith, same_in, same_out, sum_is_lem, p.2, q.2))

pub rest_of_product : (m : ℕ) (x y : ℤ) → 0 < m → rest m (x *ℤ y) ≡ (rest m x * rest m y) % m
rest_of_product m x y some =
    let p = split m x some in
    let q = split m y some in
    times m x (pos (rest m x)) y p.0 p.1 some p.2 ∙ ap (rest m) (*ℤ_comm (pos (rest m x)) y)
    ∙ times m y (pos (rest m y)) (pos (rest m x)) q.0 q.1 some q.2 ∙ ap (rest m) (*ℤ_comm (pos (rest m y)) (pos (rest m x)))

pub rest_below : (m : ℕ) (z : ℤ) → 0 < m → rest m z < m
rest_below m (pos a) some = mod_below a m some
rest_below m (negsuc a) some = omega arith

pub rest_of_negative : (m : ℕ) (x : ℤ) → 0 < m → rest m (neg_ℤ x) ≡ (m - rest m x) % m
rest_of_negative m x some =
    let p = split m x some in
    let small = rest_below m x some in
    same_rest m (neg_ℤ x) (pos (m - rest m x)) (p.1 + 1) p.0 some (omega (arith, same_in, same_out, sum_is_lem, neg_is, p.2, small))

lower_by : (m d : ℕ) (z : ℤ) (r j k : ℕ) → 0 < m → z +ℤ pos (j * (d * m)) ≡ pos r +ℤ pos (k * (d * m)) → rest m z ≡ r % m
lower_by m d z r j k some e =
    same_rest m z (pos r) (j * d) (k * d) some (ap (λ n. z +ℤ pos n) (omega arith) ∙ e ∙ ap (λ n. pos r +ℤ pos n) (omega arith))

-- the residue modulo a lower power of two is that of the residue
pub lower : (w v : ℕ) (z : ℤ) → w ≤ v → residue w z ≡ residue v z % 2 ^ w
lower w v z h =
    let p = split (2 ^ v) z (pow_pos v) in
    let parts : 2 ^ v ≡ 2 ^ (v - w) * 2 ^ w = ap (λ n. 2 ^ n) (omega arith) ∙ pow-add 2 (v - w) w in
    lower_by (2 ^ w) (2 ^ (v - w)) z (residue v z) p.0 p.1 (pow_pos w) (subst (λ n. z +ℤ pos (p.0 * n) ≡ pos (residue v z) +ℤ pos (p.1 * n)) parts p.2)
