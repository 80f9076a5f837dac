-- Classes of bytes.
use Rattle.std.specs.Prelude.{ℕ, Bool, not, ◌&&◌, ◌||◌, ◌==◌, nat_le, List, IsTrue}
use Rattle.std.specs.List.{AllByRecursion}
use Rattle.byte_lanes.specs.declared.class.Class.{Class}
use Rattle.byte_lanes.specs.declared.class.Class.TheVariants as class

abbrev pub is_between : ℕ → ℕ → ℕ → Bool
is_between low high b = nat_le low b && nat_le b high

abbrev pub is_letter : ℕ → Bool
is_letter b = is_between 97 122 b || is_between 65 90 b

abbrev pub is_digit : ℕ → Bool
is_digit b = is_between 48 57 b

-- a letter or `_`
abbrev pub is_word_start : ℕ → Bool
is_word_start b = is_letter b || b == 95

-- a letter, a digit or `_`
abbrev pub is_name_byte : ℕ → Bool
is_name_byte b = is_word_start b || is_digit b

-- a letter, a digit, `_`, `$` or `.`
abbrev pub is_word_byte : ℕ → Bool
is_word_byte b = is_name_byte b || b == 36 || b == 46

-- a letter, a digit, `_`, `$`, `.` or `-`
abbrev pub is_suffix_byte : ℕ → Bool
is_suffix_byte b = is_word_byte b || b == 45

-- a space, a tab, a line feed or a carriage return
abbrev pub is_space : ℕ → Bool
is_space b = b == 32 || b == 9 || b == 10 || b == 13

abbrev pub is_line_feed : ℕ → Bool
is_line_feed b = b == 10

abbrev pub is_in : Class → ℕ → Bool
is_in class.Word b = is_word_byte b
is_in class.Suffix b = is_suffix_byte b
is_in class.Name b = is_name_byte b
is_in class.Digit b = is_digit b
is_in class.Space b = is_space b
is_in class.Line b = not (is_line_feed b)

-- each byte of the text passes the test
abbrev pub AllAre : (ℕ → Bool) → List ℕ → Type 0
AllAre test text = AllByRecursion (λ b. IsTrue (test b)) text
