-- What the hasher of nodes computes.
use Rattle.std.specs.Prelude.{ℕ, ◌+◌, ◌*◌, ◌/◌, ◌%◌, ◌^◌, bit_xor}

-- A byte goes behind those that were taken, of which the last seven stay.
abbrev pub mixed : ℕ → ℕ → ℕ
mixed m b = (bit_xor m b * 256) % 2 ^ 64

-- The two lowest bits of the row's lowest byte stand apart; the others choose the group.
abbrev pub spread : ℕ → ℕ
spread n = ((n / 1125899906842624 * 281474976710656 + n % 281474976710656) * 11400714819323198485) % 2 ^ 64 / 4294967296 + n / 281474976710656 % 4 * 1073741824
