-- The tests of types and attributes are equality.
use Rattle.std.proofs.Common.{◌≡◌, true}
use Rattle.std.specs.Ordering.{eq_by_cmp}
use Rattle.mlir_tree.specs.Tree.{Ty, Attr}
use Rattle.mlir_tree.specs.Order.{ty_cmp, attr_cmp}
use Rattle.mlir_tree.specs.Codes.{ty_same, attr_same, is_equal}
use Rattle.mlir_tree.specs.TyKeys.{ty_equivalence}
use Rattle.mlir_tree.specs.AttrKeys.{attr_equivalence}

pub ty_itself : (x : Ty) → eq_by_cmp ty_cmp x x ≡ true
ty_itself x = ty_equivalence.refl x

pub same_ty : (x y : Ty) → eq_by_cmp ty_cmp x y ≡ true → x ≡ y
same_ty x y h = ty_same x y (is_equal (ty_cmp x y) h)

pub attr_itself : (x : Attr) → eq_by_cmp attr_cmp x x ≡ true
attr_itself x = attr_equivalence.refl x

pub same_attr : (x y : Attr) → eq_by_cmp attr_cmp x y ≡ true → x ≡ y
same_attr x y h = attr_same x y (is_equal (attr_cmp x y) h)
