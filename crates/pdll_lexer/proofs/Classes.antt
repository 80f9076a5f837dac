-- What classes of bytes exclude.
use Rattle.std.proofs.Common.{◌≡◌, ℕ, ◌≤◌, Bool, true, false, arith, inl, inr, refl, eqb-true}
use Rattle.std.specs.Prelude.{◌==◌, nat_le}
use Rattle.std.proofs.lemmas.Bool.{and_parts, or_cases, leb-true}
use Rattle.text_scan.specs.Bytes.{is_between, is_letter, is_digit, is_word_start}

between : (low high b : ℕ) → is_between low high b ≡ true → (low ≤ b) × (b ≤ high)
between low high b h = let p = and_parts (nat_le low b) (nat_le b high) h in (leb-true low b p.0, leb-true b high p.1)

letter_least : (b : ℕ) → is_letter b ≡ true → 65 ≤ b
letter_least b h =
    elim (or_cases (is_between 97 122 b) (is_between 65 90 b) h) [
      | inl is ↦ let p = between 97 122 b is in omega (arith, p.0)
      | inr is ↦ let p = between 65 90 b is in omega (arith, p.0)
    ]

start_least : (b : ℕ) → is_word_start b ≡ true → 65 ≤ b
start_least b h =
    elim (or_cases (is_letter b) (b == 95) h) [ inl is ↦ letter_least b is | inr is ↦ let e = eqb-true b 95 is in omega arith ]

not_so : (p : Bool) → (p ≡ true → ⊥) → p ≡ false
not_so true h = absurd (h refl)
not_so false h = refl

pub digit_no_start : (b : ℕ) → is_digit b ≡ true → is_word_start b ≡ false
digit_no_start b h =
    not_so (is_word_start b) (λ is. let least = start_least b is in let p = between 48 57 b h in omega (arith, p.1))
