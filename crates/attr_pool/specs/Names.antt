-- Names by their bytes.
use Rattle.std.specs.Prelude.{◌≡◌, ℕ, List, [], ◌∷◌, map}
use Rattle.std.specs.declared.vec.Vec.{Vec}
use Rattle.std.specs.declared.alloc.Global.{Global}

-- The names in their order.
abbrev pub names_of : List (Vec ℕ Global × List ℕ) → List (List ℕ)
names_of es = map (λ e. e.1) es

-- Each name is found by its own bytes.
abbrev pub AreNamed : List (Vec ℕ Global × List ℕ) → Type 0
AreNamed [] = Unit {0}
AreNamed (e ∷ es) = (e.0.items ≡ e.1) × AreNamed es
