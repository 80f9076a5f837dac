-- The segments of a list, by the sizes that an attribute spells.
use Rattle.std.specs.Prelude.{ℕ, ◌==◌, if◌then◌else◌, List, [], ◌∷◌, sum, length, take, drop, Option, Some, None, option_map, option_and_then}
use Rattle.mlir_tree.specs.Tree.{Attr}
use Rattle.segment_sizes.specs.Sizes.{sizes}

-- these sizes, where they are so many in all
abbrev pub fitting : ℕ → List ℕ → Option (List ℕ)
fitting n ns = if sum ns == n then Some ns else None

-- the runs of these sizes, in order
abbrev pub runs : {X : Type 0} → List ℕ → List X → List (List X)
runs [] xs = []
runs (n ∷ ns) xs = take n xs ∷ runs ns (drop n xs)

-- The segments of a list, where the attribute spells sizes that are its length in all.
abbrev pub segments : {X : Type 0} → Attr → List X → Option (List (List X))
segments a xs = option_map (λ ns. runs ns xs) (option_and_then (fitting (length xs)) (sizes a))
