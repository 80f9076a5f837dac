-- A step that was taken, as the log tells it.
use Rattle.std.specs.Prelude.{ℕ, ◌<◌, List, [], ◌∷◌, ⊤}

pub record Taken : Type 0 where
  pub pattern : ℕ  -- the place of the pattern in the file, from 0
  pub name : List ℕ  -- of the pattern
  pub root : ℕ
  pub made : List ℕ
  pub removed : List ℕ

abbrev pub step_of : ℕ → List ℕ → ℕ → List ℕ → List ℕ → Taken
step_of pattern name root made removed = record { pattern = pattern; name = name; root = root; made = made; removed = removed }

-- Each number is below the next one.
abbrev pub IsRising : List ℕ → Type 0
IsRising [] = ⊤
IsRising (m ∷ []) = ⊤
IsRising (m ∷ (n ∷ more)) = (m < n) × IsRising (n ∷ more)

-- What every step keeps: the numbers of the rows that it made rise, and so do those of the rows that it removed.
pub record KeepsOrder (s : Taken) : Type 0 where
  pub made : IsRising s.made
  pub removed : IsRising s.removed
