-- What classes of bytes exclude.
use Rattle.std.proofs.Common.{◌≡◌, ◌≢◌, ℕ, ◌≤◌, Bool, true, false, arith, inl, inr, refl, eqb-true}
use Rattle.std.specs.Prelude.{◌==◌, ◌||◌, nat_le, ◌⊎◌}
use Rattle.std.proofs.lemmas.Bool.{and_parts, or_cases, leb-true}
use Rattle.text_scan.specs.Bytes.{is_between, is_letter, is_digit, is_word_start}
use Rattle.mlir_lexer.specs.Forms.{is_suffix_start, is_exponent_mark, is_sign}

between : (low high b : ℕ) → is_between low high b ≡ true → (low ≤ b) × (b ≤ high)
between low high b h = let p = and_parts (nat_le low b) (nat_le b high) h in (leb-true low b p.0, leb-true b high p.1)

digit_between : (b : ℕ) → is_digit b ≡ true → (48 ≤ b) × (b ≤ 57)
digit_between b h = between 48 57 b h

letter_least : (b : ℕ) → is_letter b ≡ true → 65 ≤ b
letter_least b h =
    elim (or_cases (is_between 97 122 b) (is_between 65 90 b) h) [
      | inl is ↦ let p = between 97 122 b is in omega (arith, p.0)
      | inr is ↦ let p = between 65 90 b is in omega (arith, p.0)
    ]

start_least : (b : ℕ) → is_word_start b ≡ true → 65 ≤ b
start_least b h =
    elim (or_cases (is_letter b) (b == 95) h) [ inl is ↦ letter_least b is | inr is ↦ let e = eqb-true b 95 is in omega arith ]

not_so : (p : Bool) → (p ≡ true → ⊥) → p ≡ false
not_so true h = absurd (h refl)
not_so false h = refl

pub digit_no_start : (b : ℕ) → is_digit b ≡ true → is_word_start b ≡ false
digit_no_start b h =
    not_so (is_word_start b) (λ is. let least = start_least b is in let p = digit_between b h in omega (arith, p.1))

suffix_start_is : (b : ℕ) → is_suffix_start b ≡ true → (65 ≤ b) ⊎ ((b ≤ 46) × (b ≢ 34))
suffix_start_is b h =
    elim (or_cases (is_word_start b || b == 36 || b == 46) (b == 45) h) [
      | inr is ↦ let e = eqb-true b 45 is in inr (omega arith, λ q. omega arith)
      | inl more ↦ elim (or_cases (is_word_start b || b == 36) (b == 46) more) [
        | inr is ↦ let e = eqb-true b 46 is in inr (omega arith, λ q. omega arith)
        | inl most ↦ elim (or_cases (is_word_start b) (b == 36) most) [
          | inl is ↦ inl (start_least b is)
          | inr is ↦ let e = eqb-true b 36 is in inr (omega arith, λ q. omega arith)
        ]
      ]
    ]

pub suffix_start_no_digit : (b : ℕ) → is_suffix_start b ≡ true → is_digit b ≡ false
suffix_start_no_digit b h =
    not_so (is_digit b) (λ is. let p = digit_between b is in elim (suffix_start_is b h) [ inl least ↦ omega (arith, p.1) | inr q ↦ omega (arith, p.0, q.0) ])

no_quote : (b : ℕ) → b ≢ 34 → b == 34 ≡ false
no_quote b h = not_so (b == 34) (λ is. h (eqb-true b 34 is))

pub digit_no_quote : (b : ℕ) → is_digit b ≡ true → b == 34 ≡ false
digit_no_quote b h = no_quote b (λ e. let p = digit_between b h in omega (arith, p.0))

pub suffix_start_no_quote : (b : ℕ) → is_suffix_start b ≡ true → b == 34 ≡ false
suffix_start_no_quote b h = no_quote b (λ e. elim (suffix_start_is b h) [ inl least ↦ omega arith | inr q ↦ q.1 e ])

pub digit_no_sign : (b : ℕ) → is_digit b ≡ true → is_sign b ≡ false
digit_no_sign b h =
    not_so (is_sign b) (λ is. let p = digit_between b h in
    elim (or_cases (b == 43) (b == 45) is) [ inl same ↦ (let e = eqb-true b 43 same in omega (arith, p.0)) | inr same ↦ (let e = eqb-true b 45 same in omega (arith, p.0)) ])

pub mark_no_digit : (b : ℕ) → is_exponent_mark b ≡ true → is_digit b ≡ false
mark_no_digit b h =
    not_so (is_digit b) (λ is. let p = digit_between b is in
    elim (or_cases (b == 101) (b == 69) h) [ inl same ↦ (let e = eqb-true b 101 same in omega (arith, p.1)) | inr same ↦ (let e = eqb-true b 69 same in omega (arith, p.1)) ])
