-- Hexadecimal digits.
use Rattle.std.specs.Prelude.{ℕ, Bool, ◌||◌}
use Rattle.byte_lanes.specs.Bytes.{is_between, is_digit}

-- a hexadecimal digit, in either case
abbrev pub is_hex_digit : ℕ → Bool
is_hex_digit b = is_digit b || is_between 97 102 b || is_between 65 70 b
