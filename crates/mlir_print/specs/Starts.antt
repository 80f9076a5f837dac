-- The number of the first argument of each region, where the first of all is this one.
use Rattle.std.specs.Prelude.{ℕ, ◌+◌, List, [], ◌∷◌, length}
use Rattle.mlir_tree.specs.Tree.{Ty}

abbrev pub starts : ℕ → List (List Ty) → List ℕ
starts first [] = []
starts first (arguments ∷ regions) = first ∷ starts (first + length arguments) regions
