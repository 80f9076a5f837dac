-- The mask of the lowest bits.
use Rattle.std.proofs.Common.{◌≡◌, ◌∙◌, ℕ, ◌+◌, ◌*◌, ◌-◌, ◌/◌, ◌%◌, ◌^◌, ◌<◌, ◌≤◌, sym, ap, arith}
use Rattle.std.specs.Prelude.{bit_and, nat_lt, if◌then◌else◌, false}
use Rattle.std.proofs.lemmas.Nat.{pow_pos, pow-add, shr_high, and_mask, one_shl}
use Rattle.std.proofs.lemmas.Bool.Decides.{nat_tests}
use Rattle.native_set.specs.Arithmetic.{complement, natural, negated}

pub mask : (w : ℕ) → w ≤ 128 → (2 ^ 128 - 1) / 2 ^ (128 - w) ≡ 2 ^ w - 1
mask w h =
    let k = 128 - w in
    let parts : 2 ^ 128 ≡ 2 ^ w * 2 ^ k = ap (λ n. 2 ^ n) {x = 128} {y = w + k} (omega arith) ∙ pow-add 2 w k in
    let some = pow_pos w in
    let low = pow_pos k in
    let wide : 2 ^ w * 2 ^ k ≡ (2 ^ w - 1 + 1) * 2 ^ k = ap (λ n. n * 2 ^ k) (omega (arith, some)) in
    let one : (n : ℕ) → (n + 1) * 2 ^ k ≡ n * 2 ^ k + 2 ^ k = λ n. omega arith in
    let is : 2 ^ 128 - 1 ≡ (2 ^ w - 1) * 2 ^ k + (2 ^ k - 1) = omega (arith, parts, wide, one (2 ^ w - 1), low) in
    ap (λ n. n / 2 ^ k) is ∙ shr_high (2 ^ w - 1) k (2 ^ k - 1) (omega (arith, low))

pub masked : (n w : ℕ) → w ≤ 128 → bit_and n ((2 ^ 128 - 1) / 2 ^ (128 - w)) ≡ n % 2 ^ w
masked n w h = ap (bit_and n) (mask w h) ∙ and_mask n w

-- a residue in the upper half
pub upper : (w r : ℕ) → 0 < w → w ≤ 128 → (1 * 2 ^ (w - 1)) % 2 ^ 128 ≤ r → r < 2 ^ w → negated ((2 ^ 128 - 1) / 2 ^ (128 - w) - r + 1) ≡ complement w r
upper w r some small h below =
    let half : 2 ^ (w - 1) ≤ r = omega (arith, one_shl (w - 1) 128 (omega arith)) in
    let test : nat_lt r (2 ^ (w - 1)) ≡ false = grind (arith, nat_tests) in
    let least : (2 ^ 128 - 1) / 2 ^ (128 - w) - r + 1 ≡ 2 ^ w - r = omega (arith, mask w small) in
    ap negated least ∙ sym (ap (λ b. if b then natural r else negated (2 ^ w - r)) test)

pub mask_covers : (w r : ℕ) → w ≤ 128 → r < 2 ^ w → r ≤ (2 ^ 128 - 1) / 2 ^ (128 - w)
mask_covers w r small h = omega (arith, mask w small)
