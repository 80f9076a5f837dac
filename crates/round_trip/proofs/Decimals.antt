-- The decimal text of a number.
use Rattle.std.proofs.Common.{◌≡◌, ℕ, ◌<◌, ◌^◌, Bool, true, false, List, [], ◌∷◌, length, refl, ap, arith}
use Rattle.std.specs.Prelude.{decimal, slice_index, nat_lt, ◌==◌}
use Rattle.std.specs.Str.Parse.{AllDigits, digits_value}
use Rattle.std.proofs.lemmas.Bool.{ltb-true, ltb-false}
use Rattle.std.proofs.lemmas.Fmt.{decimal_is_IsNumeral, decimal_is_IsNumeral_wide, decimal_digit, first_decimal}
use Rattle.text_scan.specs.Bytes.{is_digit, AllAre}
use Rattle.mlir_lexer.specs.Forms.{AreSome}
use Rattle.mlir_attributes.specs.Numbers.{is_hex, token_value}
use Rattle.mlir_attributes.specs.TypeGrammar.{IsDecimal}
use Rattle.mlir_attributes.proofs.Words.{digits_all}
use Rattle.std.proofs.lemmas.Bool.{and_parts}
use Rattle.std.proofs.lemmas.Bool.Decides.{nat_tests}
use Rattle.std.specs.List.{list_all}

all_of : (ds : List ℕ) → list_all is_digit ds ≡ true → AllAre is_digit ds
all_of [] h = tt
all_of (d ∷ ds) h = let parts = and_parts (is_digit d) (list_all is_digit ds) h in (parts.0, all_of ds parts.1)

some_of : (ds : List ℕ) → 0 < length ds → AllAre is_digit ds → AreSome is_digit ds
some_of [] some h = absurd (omega arith)
some_of (d ∷ ds) some h = h

pub all_digits : (ds : List ℕ) → AllDigits 10 ds → AllAre is_digit ds
all_digits ds h = all_of ds (digits_all ds h)

-- digits, and the number that they write
pub record IsDigits (n : ℕ) (ds : List ℕ) : Type 0 where
  pub some : AreSome is_digit ds
  pub all : AllAre is_digit ds
  pub value : digits_value 10 ds ≡ n

pub decimal_wide : (n : ℕ) → n < 10 ^ 64 → IsDigits n (decimal n)
decimal_wide n small =
    let (is, value) = decimal_is_IsNumeral_wide n small in
    let all = all_digits (decimal n) is.1 in
    record { some = some_of (decimal n) is.0 all; all = all; value = value }

digit_no_mark : (c : ℕ) → is_digit c ≡ true → c == 120 ≡ false
digit_no_mark c h = grind (arith, nat_tests)

pub digits_no_hex : (ds : List ℕ) → AllAre is_digit ds → is_hex ds ≡ false
digits_no_hex [] h = refl
digits_no_hex (b ∷ []) h = refl
digits_no_hex (b ∷ c ∷ ds) h = digit_no_mark c h.1.0

-- the number that the token of a decimal writes
pub token_means : (n : ℕ) → n < 10 ^ 64 → token_value (decimal n) ≡ n
token_means n small =
    let d = decimal_wide n small in
    rw (digits_no_hex (decimal n) d.all) d.value

zero_by : (n : ℕ) → n < 2 ^ 64 → (b : Bool) → nat_lt n 10 ≡ b → slice_index (decimal n) 0 ≡ 48 → length (decimal n) ≡ 1
zero_by n small true is zero_first = ap length (decimal_digit n (ltb-true n 10 is))
zero_by n small false is zero_first = absurd (let above = first_decimal n (omega (arith, ltb-false n 10 is)) small in omega arith)

pub is_decimal : (n : ℕ) → n < 2 ^ 64 → IsDecimal (decimal n) × (digits_value 10 (decimal n) ≡ n)
is_decimal n small =
    let (is, value) = decimal_is_IsNumeral n small in
    (record { digits_are = is.1; some = is.0; no_zero = zero_by n small (nat_lt n 10) refl }, value)
