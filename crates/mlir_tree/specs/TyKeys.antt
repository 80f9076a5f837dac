-- Types as keys of a map: equality by the order, and what is hashed.
use Rattle.std.proofs.Common.{◌≡◌, ℕ, true, List, [], ◌∷◌, ap}
use Rattle.std.specs.Hash as fed
use Rattle.std.specs.Cmp.{IsEquivalence, IsPartialEquivalence, partial_equiv_from_equiv, eq_by_cmp_equiv}
use Rattle.std.specs.Ordering.{eq_by_cmp}
use Rattle.mlir_tree.specs.Tree.{Ty, int, index, func, word}
use Rattle.mlir_tree.specs.Order.{ty_cmp}
use Rattle.mlir_tree.specs.Codes.{ty_total, ty_same, is_equal}

-- The width, the text, or the kind alone.
abbrev pub ty_input : Ty → List (List ℕ)
ty_input (int s w) = fed.u32 w
ty_input index = fed.u8 1
ty_input (func xs ys) = fed.u8 2
ty_input (word t) = t ∷ []

pub ty_equivalence : IsEquivalence (eq_by_cmp ty_cmp)
ty_equivalence = eq_by_cmp_equiv ty_total

pub ty_partial : IsPartialEquivalence (eq_by_cmp ty_cmp)
ty_partial = partial_equiv_from_equiv ty_equivalence

pub ty_alike : (x y : Ty) → eq_by_cmp ty_cmp x y ≡ true → ty_input x ≡ ty_input y
ty_alike x y h = ap ty_input (ty_same x y (is_equal (ty_cmp x y) h))
