-- What the calls of a host and of a sink do.
use Rattle.std.specs.Prelude.{◌≡◌, ℕ, ◌+◌, ◌-◌, ◌^◌, ◌≤◌, min, List, [], ◌++◌, length, take, drop, Option, Some, IfSome, Result, OnOk, OnErr}
use Rattle.std.specs.Option.{option_map}

-- A count of faults rose: it is more than before, or stands at its last value.
abbrev pub Rose : ℕ → ℕ → Type 0
Rose before after = min (before + 1) (2 ^ 64 - 1) ≤ after

-- the bytes that are known, with a piece behind them
abbrev pub appended : Option (List ℕ) → List ℕ → Option (List ℕ)
appended known piece = option_map (λ bytes. bytes ++ piece) known

-- the bytes that are known to be left, with a piece before them
abbrev pub prepended : List ℕ → Option (List ℕ) → Option (List ℕ)
prepended piece known = option_map (λ bytes. piece ++ bytes) known

-- Bytes came behind those that were known, or none.
pub record Grows (before after : Option (List ℕ)) : Type 0 where
  pub more : List ℕ
  pub grown : after ≡ appended before more

-- A front of the text was put.
pub record PutsFront (before after : Option (List ℕ)) (text : List ℕ) : Type 0 where
  pub count : ℕ
  pub put : after ≡ appended before (take count text)

-- What is left of the bytes when at most so many were taken from the front.
pub record TakesAtMost (most : ℕ) (bytes : List ℕ) (left : Option (List ℕ)) : Type 0 where
  pub count : ℕ
  pub few : count ≤ most
  pub rest : left ≡ Some (drop count bytes)
