-- What is found where a pattern matches.
use Rattle.std.specs.Prelude.{◌≡◌, ◌⊎◌, ℕ, ◌<◌, ◌≤◌, nat_le, Bool, false, List, map, slice_get, Option, Some, None}
use Rattle.std.specs.Option.{option_map_or}
use Rattle.mlir_tree.specs.declared.row.Row.{Row}
use Rattle.rewrite_model.specs.declared.run.Hit.{Hit}
use Rattle.rewrite_model.specs.declared.run.Order.{Order}
use Rattle.rewrite_model.specs.Pattern.{Pattern}
use Rattle.rewrite_model.specs.Matching.{MatchesBy, Matches}
use Rattle.rewrite_model.specs.Running.{NoneAmong, IsNext}
use Rattle.row_matcher.specs.View.{thing_of}
use Rattle.greedy_driver.specs.declared.next.Found.{Found}

-- The k-th pattern is this one, and it matches at the operation by what was found.
pub record IsFound (ps : List Pattern) (rows : List Row) (id : ℕ) (f : Found) (p : Pattern) : Type 0 where
  pub declared : slice_get ps f.at ≡ Some p
  pub matches : MatchesBy rows p (map thing_of f.given) id

-- Of the first so many patterns it is the best that matches at the operation.
pub record IsBestOf (ps : List Pattern) (rows : List Row) (id n : ℕ) (f : Found) (p : Pattern) : Type 0 where
  pub found : IsFound ps rows id f p
  pub within : f.at < n
  pub best : (j : ℕ) (q : Pattern) → j < n → slice_get ps j ≡ Some q → Matches rows q id → (q.benefit < p.benefit) ⊎ ((q.benefit ≡ p.benefit) × (f.at ≤ j))

-- None of the first so many matches.
abbrev pub NoneOf : List Pattern → List Row → ℕ → ℕ → Type 0
NoneOf ps rows id n = (j : ℕ) (q : Pattern) → j < n → slice_get ps j ≡ Some q → Matches rows q id → ⊥

-- The best of the first so many, if one matches.
abbrev pub BestOf : List Pattern → List Row → ℕ → ℕ → Option Found → Type 0
BestOf ps rows id n None = NoneOf ps rows id n
BestOf ps rows id n (Some f) = (p : Pattern) × IsBestOf ps rows id n f p

abbrev pub hit_of : ℕ → ℕ → Hit
hit_of pattern row = record { pattern = pattern; row = row }

-- The first operation in this order at which a pattern matches, with its best pattern, or there is none.
abbrev pub IsNextFound : Order → List Pattern → List Row → Option (ℕ × Found) → Type 0
IsNextFound order ps rows None = NoneAmong ps rows rows
IsNextFound order ps rows (Some x) = (p : Pattern) × IsNext order ps rows (hit_of x.1.at x.0) p × IsFound ps rows x.0 x.1 p

abbrev pub benefit_at : List Pattern → ℕ → ℕ
benefit_at ps k = option_map_or (λ p. p.benefit) (slice_get ps k) 0

-- Whether what was found has at least the benefit of the pattern at a place.
abbrev pub is_as_good : List Pattern → Option Found → ℕ → Bool
is_as_good ps None at = false
is_as_good ps (Some f) at = nat_le (benefit_at ps at) (benefit_at ps f.at)
