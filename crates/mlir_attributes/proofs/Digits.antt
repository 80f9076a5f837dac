-- The number that digits write, digit by digit.
use Rattle.std.proofs.Common.{◌^◌, Bool, true, false, cond, sym, ◌≡◌, ℕ, suc, ◌+◌, ◌*◌, ◌<◌, ◌≤◌, List, [], ◌∷◌, ◌++◌, length, take, refl, ap, ◌∙◌, arith, slice_index_or}
use Rattle.std.specs.Prelude.{nat_lt, Option, Some, None}
use Rattle.std.proofs.lemmas.Bool.{ltb-true, ltb-false, lt-ltb, le-ltb}
use Rattle.mlir_attributes.specs.Numbers.{if_short}
use Rattle.std.specs.Str.Parse.{digits_value}
use Rattle.std.specs.Char.{digit_value}
use Rattle.std.proofs.lemmas.Int.Digits.{digits_value_push}
use Rattle.std.proofs.lemmas.Str.Parse.{digits_value-take-le}
use Rattle.std.proofs.Math.Seq.{take-suc}

pub one_more_digit : (radix : ℕ) (ds : List ℕ) (i d : ℕ) → i < length ds → digits_value radix (take (i + 1) ds) ≡ digits_value radix (take i ds) * radix + digit_value (slice_index_or ds i d)
one_more_digit radix ds i d below =
    let next : take (suc i) ds ≡ take i ds ++ (slice_index_or ds i d ∷ []) = take-suc ds i d below in
    let same : i + 1 ≡ suc i = omega arith in
    ap (λ n. digits_value radix (take n ds)) same ∙ ap (digits_value radix) next ∙ digits_value_push radix (take i ds) (slice_index_or ds i d)

-- what the first digits write bounds the number from below
pub at_least : (radix : ℕ) (ds : List ℕ) (i d most : ℕ) → 1 ≤ radix → i < length ds → most ≤ digits_value radix (take i ds) * radix + digit_value (slice_index_or ds i d) → most ≤ digits_value radix ds
at_least radix ds i d most some below h = omega (arith, one_more_digit radix ds i d below, digits_value-take-le radix ds (i + 1) some)

-- ---- below 2^128 or not

abbrev value_or : ℕ → Option ℕ → ℕ
value_or n None = n
value_or n (Some m) = m

short_by : (n : ℕ) (b : Bool) → nat_lt n (2 ^ 128) ≡ b → (m : ℕ) → cond b (Some n) None ≡ Some m → (m ≡ n) × (n < 2 ^ 128)
short_by n true is m h = (sym (ap (value_or n) h), ltb-true n (2 ^ 128) is)
short_by n false is m h = absurd (cc)

pub short_some : (n m : ℕ) → if_short n ≡ Some m → (m ≡ n) × (n < 2 ^ 128)
short_some n m h = short_by n (nat_lt n (2 ^ 128)) refl m h

long_by : (n : ℕ) (b : Bool) → nat_lt n (2 ^ 128) ≡ b → cond b (Some n) None ≡ None → 2 ^ 128 ≤ n
long_by n true is h = absurd (cc)
long_by n false is h = ltb-false n (2 ^ 128) is

pub short_none : (n : ℕ) → if_short n ≡ None → 2 ^ 128 ≤ n
short_none n h = long_by n (nat_lt n (2 ^ 128)) refl h

pub short : (n : ℕ) → n < 2 ^ 128 → if_short n ≡ Some n
short n h = ap (λ b. cond b (Some n) None) (lt-ltb n (2 ^ 128) h)

pub long : (n : ℕ) → 2 ^ 128 ≤ n → if_short n ≡ None
long n h = ap (λ b. cond b (Some n) None) (le-ltb n (2 ^ 128) h)
