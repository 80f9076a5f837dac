-- Which variables and operation expressions are determined, so that at most one choice fits them.
use Rattle.std.specs.Prelude.{◌≡◌, ◌⊎◌, ℕ, ◌<◌, ◌≤◌, List, [], ◌∷◌, map, length, ⊤}
use Rattle.std.specs.List.{AllByRecursion}
use Rattle.mlir_tree.specs.Tree.{Ty, Attr}
use Rattle.native_set.specs.declared.native.Kind.{Kind}
use Rattle.rewrite_model.specs.Pattern.{Parts, Expr, the, result, only_result, Demand, is_attr, is_type, has_parts, has_type, Pattern}
use Rattle.rewrite_model.specs.Ranges.{ranges}

abbrev pub IsIn : {X : Type 0} → X → List X → Type 0
IsIn x [] = ⊥
IsIn x (y ∷ ys) = (x ≡ y) ⊎ IsIn x ys

-- what has a number in an expression
abbrev pub StandsIn : ℕ → Expr → Type 0
StandsIn x (the y) = x ≡ y
StandsIn x (result y k) = x ≡ y
StandsIn x (only_result y) = x ≡ y

abbrev pub values_of : List (List ℕ × Expr) → List Expr
values_of es = map (λ e. e.1) es

-- an operand, an attribute or a result type of an operation
abbrev pub IsPart : Expr → Parts Expr → Type 0
IsPart e o = IsIn e o.operands ⊎ (IsIn e (values_of o.entries) ⊎ IsIn e o.types)

-- What is given is determined: the root, or the parameters of a constraint. So are literals. With an operation its
-- operands, attributes and types are, and with those the operations whose results they are. With a variable its written
-- type is.
pub data Determined (given : List ℕ) (demands : List Demand) : ℕ → Type 0 where
  given_one : (x : ℕ) → IsIn x given → Determined given demands x
  attr_told : (x : ℕ) (v : Attr) → IsIn (is_attr x v) demands → Determined given demands x
  type_told : (x : ℕ) (t : Ty) → IsIn (is_type x t) demands → Determined given demands x
  part_of : (x y : ℕ) (o : Parts Expr) (e : Expr) → IsIn (has_parts x o) demands → Determined given demands x → IsPart e o → StandsIn y e → Determined given demands y
  type_of : (x y : ℕ) (e : Expr) → IsIn (has_type x e) demands → Determined given demands x → StandsIn y e → Determined given demands y

-- ---- ranges

-- At most one expression stands for several.
abbrev pub HasOneRange : List Kind → List Expr → Type 0
HasOneRange ks es = ranges ks es ≤ 1

-- So it is in each list of types. Several ranges of operands are told apart by sizes.
abbrev pub KeepsOneRange : List Kind → Demand → Type 0
KeepsOneRange ks (has_parts x o) = HasOneRange ks o.types
KeepsOneRange ks d = ⊤

-- ---- patterns

-- Whatever has a number is determined, and no list of types has two ranges.
pub record IsDetermined (p : Pattern) : Type 0 where
  pub each : (x : ℕ) → x < length p.kinds → Determined (p.root ∷ []) p.demands x
  pub ranges : AllByRecursion (KeepsOneRange p.kinds) p.demands

abbrev pub AreDetermined : List Pattern → Type 0
AreDetermined ps = AllByRecursion IsDetermined ps
