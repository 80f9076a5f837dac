-- How many brackets are open at once in a printed text.
use Rattle.std.specs.Prelude.{ℕ, true, false, ◌&&◌, ◌||◌, not, ◌==◌, max, if◌then◌else◌, List, [], ◌∷◌, length, slice_index}
use Rattle.mlir_lexer.specs.Body.{effect_of}
use Rattle.mlir_attributes.specs.declared.nesting.Scan.{Scan}
pub use Rattle.mlir_attributes.specs.Brackets.{innermost, closers_by}

abbrev pub scan_to : Scan → List ℕ → ℕ → Scan
scan_to s closers b = record { closers = closers; dash = b == 45; quoted = false; escaped = false; most = max s.most (length closers) }

-- The state behind a byte, before this next byte. Inside a string a backslash takes the next byte with it.
unfoldable pub scan_byte : Scan → ℕ → ℕ → Scan
scan_byte s b next =
    if s.quoted then record s { quoted = s.escaped || not (b == 34); escaped = not s.escaped && b == 92; dash = false }
    else (if b == 34 then record s { quoted = true; dash = false }
    else scan_to s (closers_by (effect_of b next s.dash (innermost s.closers)) b s.closers) b)

unfoldable pub scan_text : Scan → List ℕ → Scan
scan_text s [] = s
scan_text s (b ∷ text) = scan_text (scan_byte s b (slice_index text 0)) text

abbrev pub scan_start : Scan
scan_start = record { closers = []; dash = false; quoted = false; escaped = false; most = 0 }

-- the most brackets that are open at once in a text; those in strings don't count
abbrev pub nesting : List ℕ → ℕ
nesting text = (scan_text scan_start text).most
