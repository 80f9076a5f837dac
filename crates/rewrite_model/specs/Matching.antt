-- Where a pattern matches, and which is the best (Pattern Rewriting guide, "Benefit"; the tie is this project's).
use Rattle.std.specs.Prelude.{◌≡◌, ◌⊎◌, ℕ, ◌<◌, ◌≤◌, List, slice_get, Some}
use Rattle.std.specs.List.{AllByRecursion}
use Rattle.mlir_tree.specs.declared.row.Row.{Row}
use Rattle.rewrite_model.specs.Pattern.{Pattern}
use Rattle.rewrite_model.specs.Things.{Thing, an_op, IsAssignment}
use Rattle.rewrite_model.specs.Holding.{Holds}

-- Under this assignment the whole match holds, and the root denotes the operation.
pub record MatchesBy (rows : List Row) (p : Pattern) (a : List Thing) (id : ℕ) : Type 0 where
  pub assigned : IsAssignment rows p.kinds a
  pub holds : AllByRecursion (Holds rows a) p.demands
  pub root : slice_get a p.root ≡ Some (an_op id)

-- There is such an assignment.
abbrev pub Matches : List Row → Pattern → ℕ → Type 0
Matches rows p id = (a : List Thing) × MatchesBy rows p a id

-- No pattern matches at the operation.
abbrev pub NoneAt : List Pattern → List Row → ℕ → Type 0
NoneAt ps rows id = (k : ℕ) (p : Pattern) → slice_get ps k ≡ Some p → Matches rows p id → ⊥

-- The k-th pattern is the best at the operation: of those that match it has the greatest benefit, and of those with that
-- benefit it is declared first.
pub record IsBest (ps : List Pattern) (rows : List Row) (id k : ℕ) (p : Pattern) : Type 0 where
  pub declared : slice_get ps k ≡ Some p
  pub matches : Matches rows p id
  pub best : (j : ℕ) (q : Pattern) → slice_get ps j ≡ Some q → Matches rows q id → (q.benefit < p.benefit) ⊎ ((q.benefit ≡ p.benefit) × (k ≤ j))
