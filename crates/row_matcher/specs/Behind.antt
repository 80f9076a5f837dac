-- What stands behind the first part of a list.
use Rattle.std.specs.Prelude.{◌≡◌, List, Option, Some, None}
use Rattle.rewrite_model.specs.Things.{joined}

-- The part and this are the list, one behind another, or the part doesn't stand first.
abbrev pub Leaves : {X : Type 0} → Option (List X) → List X → Option (List X) → Type 0
Leaves part all (Some more) = joined part (Some more) ≡ Some all
Leaves {X = X} part all None = (more : List X) → joined part (Some more) ≡ Some all → ⊥
