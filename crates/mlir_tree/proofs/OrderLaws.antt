-- The orders tie exactly what is equal.
use Rattle.std.proofs.Common.{sym, ap, ◌∙◌}
use Rattle.std.proofs.lemmas.Cmp.{tied_itself}
use Rattle.mlir_tree.specs.Order.{ty_cmp, attr_cmp}
use Rattle.mlir_tree.specs.Codes.{ty_total, ty_same, attr_total, attr_same}
use Rattle.mlir_tree.specs.Laws.{TiedTysAreEqual, TiedAttrsAreEqual}

pub tied_tys_are_equal : TiedTysAreEqual
tied_tys_are_equal x y = (λ p. ty_same x y p, λ e. ap (ty_cmp x) (sym e) ∙ tied_itself ty_total x)

pub tied_attrs_are_equal : TiedAttrsAreEqual
tied_attrs_are_equal x y = (λ p. attr_same x y p, λ e. ap (attr_cmp x) (sym e) ∙ tied_itself attr_total x)
