-- The sizes that an attribute spells (MLIR builtin dialect, "DenseArrayAttr").
use Rattle.std.specs.Prelude.{ℕ, ◌+◌, ◌-◌, ◌&&◌, ◌==◌, nat_lt, if◌then◌else◌, List, [], ◌∷◌, length, take, drop, Option, Some, None, option_and_then, codes}
use Rattle.std.specs.List.{prefix_len, starts_with, slice_split}
use Rattle.std.specs.Str.{bytes_eq}
use Rattle.std.specs.Str.Parse.{digits_value}
use Rattle.byte_lanes.specs.Bytes.{is_space, is_digit}
use Rattle.mlir_tree.specs.Tree.{Attr, kept}

-- ---- the text

-- what stands behind the spaces at the front
abbrev pub unspaced : List ℕ → List ℕ
unspaced text = drop (prefix_len is_space text) text

-- what stands behind this word and the spaces after it
abbrev pub behind : List ℕ → List ℕ → Option (List ℕ)
behind word text = if starts_with (λ x y. x == y) text word then Some (unspaced (drop (length word) text)) else None

-- what stands before a `>` at the end
abbrev pub closed : List ℕ → Option (List ℕ)
closed text = if bytes_eq (drop (length text - 1) text) (codes ">") then Some (take (length text - 1) text) else None

-- what stands between `array<i32:` and `>`
abbrev pub inside : List ℕ → Option (List ℕ)
inside text = option_and_then closed (option_and_then (behind (codes ":")) (option_and_then (behind (codes "i32")) (option_and_then (behind (codes "<")) (behind (codes "array") text))))

-- the parts between commas
abbrev pub parts : List ℕ → List (List ℕ)
parts text = slice_split (λ b. b == 44) text

-- ---- numbers

-- The number of so many digits at the front, where nothing but spaces is behind them.
abbrev pub number_of : ℕ → List ℕ → Option ℕ
number_of n text = if nat_lt 0 n && (n + prefix_len is_space (drop n text) == length text) then Some (digits_value 10 (take n text)) else None

-- the number that one or more digits write, with any spaces around them
abbrev pub size_of : List ℕ → Option ℕ
size_of part = number_of (prefix_len is_digit (unspaced part)) (unspaced part)

abbrev pub size_then : Option ℕ → Option (List ℕ) → Option (List ℕ)
size_then (Some n) (Some ns) = Some (n ∷ ns)
size_then n ns = None

-- the number of each part
abbrev pub sizes_of : List (List ℕ) → Option (List ℕ)
sizes_of [] = Some []
sizes_of (p ∷ ps) = size_then (size_of p) (sizes_of ps)

-- ---- the attribute

-- what stands between `array<i32:` and `>` in a kept text without a type
abbrev pub spelling : Attr → Option (List ℕ)
spelling (kept text None) = inside text
spelling a = None

-- The sizes that the attribute spells: a kept text without a type that consists of `array`, `<`, `i32`, `:`, one or more
-- decimal numbers with commas between, and `>`, with any spaces between these.
abbrev pub sizes : Attr → Option (List ℕ)
sizes a = option_and_then (λ text. sizes_of (parts text)) (spelling a)
