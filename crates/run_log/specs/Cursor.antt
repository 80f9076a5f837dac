-- Reading a text piece by piece.
use Rattle.std.specs.Prelude.{◌≡◌, ℕ, ◌+◌, ◌-◌, ◌%◌, ◌*◌, Bool, true, false, ◌==◌, nat_lt, if◌then◌else◌, List, ◌++◌, length, slice_index}
use Rattle.text_scan.specs.Bytes.{is_digit}

-- What is left of a text, and whether all pieces so far stood there.
pub record At : Type 0 where
  pub rest : List ℕ
  pub ok : Bool

abbrev pub at_rest : List ℕ → Bool → At
at_rest rest ok = record { rest = rest; ok = ok }

-- all pieces stood there, and this text is left
abbrev pub good : List ℕ → At
good rest = at_rest rest true

-- Where all is well afterwards, it was so before, and the text stood there.
pub record Takes (old new : At) (text : List ℕ) : Type 0 where
  pub was : new.ok ≡ true → old.ok ≡ true
  pub split : new.ok ≡ true → old.rest ≡ text ++ new.rest

-- no digit stands at the front
abbrev pub EndsNumber : List ℕ → Type 0
EndsNumber text = is_digit (slice_index text 0) ≡ false

-- nor a comma
abbrev pub EndsNumbers : List ℕ → Type 0
EndsNumbers text = EndsNumber text × ((slice_index text 0 == 44) ≡ false)

-- how much there is to do
abbrev pub size : At → ℕ
size a = if a.ok then length a.rest + 1 else 0

-- the value of a digit of a number at base 16
abbrev pub digit_value : ℕ → ℕ
digit_value c = (if nat_lt c 65 then c - 48 else c - 55) % 16

-- the byte that stands for itself or is escaped at the front of a text, if one is there
abbrev pub byte_of : List ℕ → ℕ
byte_of text =
    if slice_index text 0 == 92 then (if slice_index text 1 == 92 then 92 else 16 * digit_value (slice_index text 1) + digit_value (slice_index text 2))
    else slice_index text 0
