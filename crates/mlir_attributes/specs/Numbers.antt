-- Numbers, and those that an integer type has (builtin dialect, "IntegerAttr").
use Rattle.std.specs.Prelude.{ℕ, zero, suc, ◌-◌, ◌^◌, ◌==◌, ◌&&◌, not, Bool, true, false, if◌then◌else◌, nat_lt, nat_le, List, drop, slice_index, Option, Some, None}
use Rattle.std.specs.Str.Parse.{digits_value}
use Rattle.mlir_tree.specs.declared.sign.Sign.TheVariants.{Signless, Signed, Unsigned}
use Rattle.mlir_tree.specs.declared.number.Number.{Number}
use Rattle.mlir_tree.specs.Tree.{Ty, int, index, func, word}

-- The number, if it is below 2^128.
abbrev pub if_short : ℕ → Option ℕ
if_short n = if nat_lt n (2 ^ 128) then Some n else None

-- `0x` and hexadecimal digits
abbrev pub is_hex : List ℕ → Bool
is_hex text = slice_index text 1 == 120

-- The number that an integer token writes.
abbrev pub token_value : List ℕ → ℕ
token_value text = if is_hex text then digits_value 16 (drop 2 text) else digits_value 10 text

-- A number by its sign and magnitude. Zero isn't negative.
abbrev pub signed : Bool → ℕ → Number
signed neg mag = record { neg = neg && not (mag == 0); mag = mag }

-- A number of two's complement at this many bits.
abbrev pub is_signed_range : ℕ → Number → Bool
is_signed_range zero n = not n.neg && n.mag == 0
is_signed_range (suc w) n = if n.neg then nat_lt 0 n.mag && nat_le n.mag (2 ^ w) else nat_lt n.mag (2 ^ w)

-- The number is a value of the type.
abbrev pub is_value : Ty → Number → Bool
is_value (int Signless w) n = nat_le w 128 && is_signed_range w n
is_value (int Signed w) n = nat_le w 128 && is_signed_range w n
is_value (int Unsigned w) n = nat_le w 128 && not n.neg && nat_lt n.mag (2 ^ w)
is_value index n = is_signed_range 64 n
is_value (func xs ys) n = false
is_value (word t) n = false

-- The value of a signless type of this width with the same bits as a number that is too large for a signed one.
abbrev pub same_bits : ℕ → Number → Number
same_bits w n = record { neg = true; mag = 2 ^ w - n.mag }

abbrev pub by_bits : Ty → Number → Option Number
by_bits t n = if is_value t n then Some n else None

-- The value that a literal number has at an integer type: itself, or for a signless type the value of the same bits.
abbrev pub value_at : Ty → Number → Option Number
value_at (int Signless w) n =
    if is_value (int Signless w) n then Some n
    else (if not n.neg && nat_lt 0 n.mag then by_bits (int Signless w) (same_bits w n) else None)
value_at (int Signed w) n = by_bits (int Signed w) n
value_at (int Unsigned w) n = by_bits (int Unsigned w) n
value_at index n = by_bits index n
value_at (func xs ys) n = None
value_at (word t) n = None

-- an integer type that is too wide to carry a value
abbrev pub is_wide : Ty → Bool
is_wide (int g w) = nat_lt 128 w
is_wide index = false
is_wide (func xs ys) = false
is_wide (word t) = false

-- an integer type or `index`
abbrev pub is_integral : Ty → Bool
is_integral (int g w) = true
is_integral index = true
is_integral (func xs ys) = false
is_integral (word t) = false
