-- Steps and endings that a log tells.
use Rattle.std.specs.Prelude.{ℕ, ◌<◌, ◌^◌, List, ⊤}
use Rattle.std.specs.List.{AllByRecursion}
use Rattle.rewrite_model.specs.declared.run.Break.{Break}
use Rattle.rewrite_model.specs.declared.run.Break.TheVariants.{BadUse}
use Rattle.rewrite_model.specs.declared.run.Ending.{Ending}
use Rattle.rewrite_model.specs.declared.run.Ending.TheVariants.{Converged, Bound, Broken}
use Rattle.rewrite_model.specs.Taken.{Taken, IsRising}

abbrev pub AreWords : List ℕ → Type 0
AreWords ns = AllByRecursion (λ n. n < 2 ^ 32) ns

abbrev pub AreBytes : List ℕ → Type 0
AreBytes bytes = AllByRecursion (λ b. b < 256) bytes

-- The numbers of the operations rise, and each number is in its range.
pub record IsStep (s : Taken) : Type 0 where
  pub pattern : s.pattern < 2 ^ 32
  pub name : AreBytes s.name
  pub root : s.root < 2 ^ 32
  pub made : AreWords s.made
  pub made_rise : IsRising s.made
  pub removed : AreWords s.removed
  pub removed_rise : IsRising s.removed

abbrev pub IsBreak : Break → Type 0
IsBreak (BadUse row place) = (row < 2 ^ 32) × (place < 2 ^ 16)
IsBreak _ = ⊤

abbrev pub IsEnding : Ending → Type 0
IsEnding Converged = ⊤
IsEnding (Bound k h) = (h.pattern < 2 ^ 32) × (h.row < 2 ^ 32)
IsEnding (Broken b) = (b.pattern < 2 ^ 32) × (b.root < 2 ^ 32) × IsBreak b.why
