-- Reading a list of numbers.
use Rattle.std.specs.Prelude.{◌≡◌, ℕ, List, ◌∷◌, ◌++◌, codes, decimal, drop}
use Rattle.std.specs.List.{flat_map}
use Rattle.rewrite_model.specs.Taken.{IsRising}
use Rattle.run_log.specs.Cursor.{At, Takes}
use Rattle.run_log.specs.Written.{AreWords}

-- Numbers that rise from the first one, of which the others stood there, each behind a comma.
pub record TakesNumbers (old new : At) (first : ℕ) (numbers : List ℕ) : Type 0 where
  pub starts : numbers ≡ first ∷ drop 1 numbers
  pub rising : IsRising numbers
  pub words : AreWords numbers
  pub took : Takes old new (flat_map (λ (n : ℕ). codes "," ++ decimal n) (drop 1 numbers))
