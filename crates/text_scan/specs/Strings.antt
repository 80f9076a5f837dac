-- Strings, and the bytes that they stand for.
use Rattle.std.specs.Prelude.{◌≡◌, ℕ, suc, zero, ◌+◌, ◌-◌, ◌*◌, Bool, false, not, ◌&&◌, ◌||◌, ◌==◌, nat_le, if◌then◌else◌, List, [], ◌∷◌, ◌++◌, drop, slice_index, slice_range, IsTrue, ◌<◌, Option, Some, None, ◌≤◌, length}
use Rattle.std.specs.Option.{option_map, option_map_or}
use Rattle.std.specs.List.{AllWithin}
use Rattle.text_scan.specs.declared.strings.Escape.{Escape}
use Rattle.text_scan.specs.Bytes.{is_digit}
use Rattle.text_scan.specs.Hexadecimal.{is_hex_digit}

-- any byte but `"`, a line feed and a backslash
abbrev pub is_plain : ℕ → Bool
is_plain b = not (b == 34 || b == 10 || b == 92)

-- what a backslash and this byte stand for: `\"`, `\\`, `\n` and `\t`
abbrev pub escaped_byte : ℕ → Option ℕ
escaped_byte c =
    if c == 34 then Some 34 else (if c == 92 then Some 92 else (if c == 110 then Some 10 else (if c == 116 then Some 9 else None)))

-- the value of a hexadecimal digit
abbrev pub digit_value : ℕ → ℕ
digit_value c = if is_digit c then c - 48 else (if nat_le 97 c then c - 87 else c - 55)

-- the byte that two hexadecimal digits name
abbrev pub byte_value : ℕ → ℕ → ℕ
byte_value high low = 16 * digit_value high + digit_value low

abbrev pub coded_byte : ℕ → ℕ → Option ℕ
coded_byte high low = if is_hex_digit high && is_hex_digit low then Some (byte_value high low) else None

-- A part of a string that stands for one byte: the byte itself, or an escape.
pub data IsPart : List ℕ → ℕ → Type 0 where
  plain : (b : ℕ) → IsTrue (is_plain b) → IsPart (b ∷ []) b
  escape : (c b : ℕ) → escaped_byte c ≡ Some b → IsPart (92 ∷ c ∷ []) b
  code : (high low : ℕ) → IsTrue (is_hex_digit high) → IsTrue (is_hex_digit low) → IsPart (92 ∷ high ∷ low ∷ []) (byte_value high low)

-- the text stands for these bytes, part by part
abbrev pub Spells : List ℕ → List ℕ → Type 0
Spells text [] = text ≡ []
Spells text (b ∷ bytes) = (part rest : List ℕ) × IsPart part b × Spells rest bytes × (text ≡ part ++ rest)

-- The text is a string that stands for these bytes: an opening quote, the parts, and the closing quote.
abbrev pub IsStringOf : List ℕ → List ℕ → Type 0
IsStringOf bytes text = (inside : List ℕ) × Spells inside bytes × (text ≡ 34 ∷ (inside ++ 34 ∷ []))

abbrev pub IsString : List ℕ → Type 0
IsString text = (bytes : List ℕ) × IsStringOf bytes text

-- The bytes from `from` to `end` are a string.
pub record IsStringAt (bytes : List ℕ) (from end : ℕ) : Type 0 where
  pub in_order : from ≤ end
  pub within : end ≤ length bytes
  pub string : IsString (slice_range bytes from end)

-- what the escape behind a backslash stands for, and how long it is
abbrev pub escape_at : List ℕ → Option Escape
escape_at s =
    option_map_or (λ b. Some (record { byte = b; len = 1 }))
    (escaped_byte (slice_index s 0))
    (option_map (λ b. record { byte = b; len = 2 }) (coded_byte (slice_index s 0) (slice_index s 1)))

-- Where a string ends, within which this text is left at this place; the first bytes of the text belong to an escape.
abbrev pub inside_end : ℕ → ℕ → List ℕ → Option ℕ
inside_end escaped at [] = None
inside_end (suc n) at (b ∷ s) = inside_end n (at + 1) s
inside_end zero at (b ∷ s) =
    if b == 34 then Some (at + 1) else (if b == 10 then None
    else (if b == 92 then option_map_or (λ e. inside_end e.len (at + 1) s) (escape_at s) None else inside_end 0 (at + 1) s))

-- where the string ends that begins with the text, which stands at this place
abbrev pub string_end : ℕ → List ℕ → Option ℕ
string_end at [] = None
string_end at (b ∷ s) = if b == 34 then inside_end 0 (at + 1) s else None

-- what the part at the front of a string's rest stands for, and its length; none is at a closing quote
abbrev pub part_at : List ℕ → Option Escape
part_at s =
    if slice_index s 0 == 34 then None
    else (if slice_index s 0 == 92 then option_map (λ e. record { byte = e.byte; len = e.len + 1 }) (escape_at (drop 1 s))
    else Some (record { byte = slice_index s 0; len = 1 }))

-- the bytes that the rest of a string stands for, up to its closing quote
abbrev pub inside_value : ℕ → List ℕ → List ℕ
inside_value escaped [] = []
inside_value (suc n) (b ∷ s) = inside_value n s
inside_value zero (b ∷ s) =
    if b == 34 then [] else (if b == 92 then option_map_or (λ e. e.byte ∷ inside_value e.len s) (escape_at s) [] else b ∷ inside_value 0 s)

-- the bytes that a string stands for
abbrev pub string_value : List ℕ → List ℕ
string_value text = inside_value 0 (drop 1 text)

-- the first byte from a place on that is not plain
abbrev pub IsNextSpecial : List ℕ → ℕ → Option ℕ → Type 0
IsNextSpecial bytes from None = AllWithin (λ b. IsTrue (is_plain b)) bytes from (length bytes)
IsNextSpecial bytes from (Some stop) = (from ≤ stop) × (stop < length bytes) × (is_plain (slice_index bytes stop) ≡ false) × AllWithin (λ b. IsTrue (is_plain b)) bytes from stop
