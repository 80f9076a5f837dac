-- Gaps between tokens.
use Rattle.std.specs.Prelude.{◌≡◌, ℕ, suc, Bool, not, ◌&&◌, ◌==◌, if◌then◌else◌, List, [], ◌∷◌, slice_index, IsTrue, ◌⊎◌}
use Rattle.std.specs.List.{AllByRecursion, concat}
use Rattle.text_scan.specs.Bytes.{is_space, is_line_feed, AllAre}

-- one byte that is a space
abbrev pub IsSpace : List ℕ → Type 0
IsSpace text = (b : ℕ) × (text ≡ b ∷ []) × IsTrue (is_space b)

-- `//` and bytes other than a line feed
abbrev pub IsComment : List ℕ → Type 0
IsComment text = (line : List ℕ) × (text ≡ 47 ∷ 47 ∷ line) × AllAre (λ b. not (is_line_feed b)) line

-- A gap is a list of spaces and comments. The longest one at a place takes each comment to the end of its line.
abbrev pub IsGap : List ℕ → Type 0
IsGap text = (pieces : List (List ℕ)) × AllByRecursion (λ piece. IsSpace piece ⊎ IsComment piece) pieces × (text ≡ concat pieces)

-- whether the text begins with `//`
abbrev pub starts_comment : List ℕ → Bool
starts_comment text = slice_index text 0 == 47 && slice_index text 1 == 47

-- The length of the longest gap at the front of a text, and of what is left of one within a comment.
abbrev mutual
  pub gap_len : List ℕ → ℕ
  gap_len [] = 0
  gap_len (b ∷ s) = if is_space b then suc (gap_len s) else (if starts_comment (b ∷ s) then suc (comment_len s) else 0)

  pub comment_len : List ℕ → ℕ
  comment_len [] = 0
  comment_len (b ∷ s) = if is_line_feed b then suc (gap_len s) else suc (comment_len s)
