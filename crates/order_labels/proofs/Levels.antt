-- The widths of ranges, and how many slots crowd them.
use Rattle.std.proofs.Common.{◌≡◌, inl, inr, ℕ, zero, suc, ◌+◌, ◌-◌, ◌*◌, ◌/◌, ◌^◌, ◌<◌, ◌≤◌, sym, ap, ◌∙◌, arith}
use Rattle.std.proofs.Math.Nat.{pow-suc, mul-le-mul_left, mul-le-mul_right, suc-mul, div-mul-le_self, le-div_iff_mul-le}
use Rattle.std.proofs.lemmas.Nat.{pow-add}
use Rattle.std.proofs.Math.Nat.{mul_comm}
use Rattle.order_labels.specs.Chain.{top}
use Rattle.order_labels.proofs.Positions.{sides}

eight_more : (k : ℕ) → 8 ^ suc k ≡ 8 ^ k * 8
eight_more k = pow-suc 8 k

four_more : (k : ℕ) → 4 ^ suc k ≡ 4 ^ k * 4
four_more k = pow-suc 4 k

-- a range has two labels for each slot that it may have
pub wide : (k : ℕ) → 2 * 4 ^ suc k ≤ 8 ^ suc k
wide zero = omega arith
wide (suc k) = omega (arith, eight_more (suc k), four_more (suc k), wide k)

pub some_width : (k : ℕ) → 0 < 8 ^ k
some_width zero = omega arith
some_width (suc k) = omega (arith, eight_more k, some_width k)

some_four : (k : ℕ) → 0 < 4 ^ k
some_four zero = omega arith
some_four (suc k) = omega (arith, four_more k, some_four k)

-- the labels are a whole number of ranges
pub parts : (k : ℕ) → k ≤ 21 → 8 ^ k * 8 ^ (21 - k) ≡ top
parts k l = let e : k + (21 - k) ≡ 21 = omega arith in sym (pow-add 8 k (21 - k)) ∙ ap (λ n. 8 ^ n) e

pub width_below : (k : ℕ) → k ≤ 21 → 8 ^ k ≤ top
width_below k l =
    let m = mul-le-mul_left {m = 1} {n = 8 ^ (21 - k)} (8 ^ k) (some_width (21 - k)) in
    omega (arith, m, parts k l)

below_parts : (x w m : ℕ) → 0 < w → x < w * m → x / w < m
below_parts x w m p l =
    elim (sides m (x / w)) [ inl h ↦ absurd (omega (arith, l, div-mul-le_self x w, mul-le-mul_right {m = m} {n = x / w} w h, mul_comm w m)) | inr h ↦ h ]

-- an aligned range is within the labels
pub aligned : (x k : ℕ) → k ≤ 21 → x < top → x / 8 ^ k * 8 ^ k + 8 ^ k ≤ top
aligned x k l b =
    let less = below_parts x (8 ^ k) (8 ^ (21 - k)) (some_width k) (omega (arith, b, parts k l)) in
    omega (arith, mul-le-mul_right {m = suc (x / 8 ^ k)} {n = 8 ^ (21 - k)} (8 ^ k) less, suc-mul (x / 8 ^ k) (8 ^ k), parts k l, mul_comm (8 ^ k) (8 ^ (21 - k)))

-- a level at which so many slots crowd a range isn't the last
pub not_last : (k n : ℕ) → 4 ^ k ≤ n → n ≤ 2 ^ 40 → k < 21
not_last k n l m = elim (sides k 20) [
  | inl h ↦ omega (arith, h)
  | inr h ↦
      let e : 21 + (k - 21) ≡ k = omega (arith, h) in
      let q : 4 ^ 21 * 4 ^ (k - 21) ≡ 4 ^ k = sym (pow-add 4 21 (k - 21)) ∙ ap (λ n. 4 ^ n) e in
      absurd (omega (arith, l, m, q, mul-le-mul_left {m = 1} {n = 4 ^ (k - 21)} (4 ^ 21) (some_four (k - 21))))
]

-- evenly spread, so many slots are at least two labels apart and stay within the width
pub two_apart : (width n : ℕ) → 2 * suc n ≤ width → 2 ≤ width / suc n
two_apart width n l = (le-div_iff_mul-le {k = suc n} {x = 2} {y = width} (omega arith)).1 l

pub steps_within : (width n : ℕ) → suc n * (width / suc n) ≤ width
steps_within width n = omega (arith, div-mul-le_self width (suc n), mul_comm (suc n) (width / suc n))

pub four_within : (k : ℕ) → 1 ≤ k → k ≤ 21 → 4 ^ k < 18446744073709551616
four_within k l m =
    let e : suc (k - 1) ≡ k = omega (arith, l) in
    omega (arith, wide (k - 1), ap (λ n. 4 ^ n) e, ap (λ n. 8 ^ n) e, width_below k m)
