-- Sizes of the items of a list together, and of the numbers behind an expression.
use Rattle.std.specs.Prelude.{ℕ, List, [], ◌∷◌}
use Rattle.rewrite_model.specs.Size.{Size, nothing, ◌and◌}

-- the sizes of all items together
abbrev pub total : {A : Type 0} → (A → Size) → List A → Size
total f [] = nothing
total f (x ∷ xs) = f x and total f xs

-- so many expressions
abbrev pub just_expressions : ℕ → Size
just_expressions n = record { statements = 0; operations = 0; expressions = n }
