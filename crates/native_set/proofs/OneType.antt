-- Sums and products are of integers of one type.
use Rattle.std.proofs.Common.{◌↔◌, IsTrue, Bool, true, false, refl}
use Rattle.std.specs.Prelude.{ℤ, ◌+ℤ◌, ◌*ℤ◌, Some, None, IsSome, if◌then◌else◌}
use Rattle.mlir_tree.specs.Tree.{Attr, int_attr}
use Rattle.mlir_tree.specs.Codes.{ty_equal}
use Rattle.native_set.specs.Arithmetic.{combined, is_same, sum, product}
use Rattle.native_set.specs.Laws.{HaveOneType}

by_test : {P : Type 0} (s : Bool) (x : Attr) → (IsTrue s ↔ P) → IsSome (if s then Some x else None) ↔ P
by_test true x h = (λ e. h.0 refl, λ p. refl)
by_test false x h = h

combined_of : (f : ℤ → ℤ → ℤ) (a b : Attr) → IsSome (combined f a b) ↔ HaveOneType a b
combined_of f (int_attr m t) (int_attr n u) = by_test (is_same t u) _ (ty_equal t u (is_same t u) refl)
combined_of f a b = (λ h. absurd (cc), λ h. absurd h)

pub sums : (a b : Attr) → IsSome (sum a b) ↔ HaveOneType a b
sums a b = combined_of ◌+ℤ◌ a b

pub products : (a b : Attr) → IsSome (product a b) ↔ HaveOneType a b
products a b = combined_of ◌*ℤ◌ a b
