-- Each child of a type is smaller than the type.
use Rattle.std.specs.Prelude.{◌≤◌, max}
use Rattle.std.proofs.Common.{arith}
use Rattle.mlir_tree.specs.declared.ty.TyNode.{TyNode}
use Rattle.mlir_tree.specs.declared.ty.TyNode.TheVariants.{Int, Index, Func, Word}
use Rattle.mlir_tree.specs.declared.ty.Ty.TheDeep.{deep-TyNode}
use Rattle.mlir_tree.specs.Measure.{ty_size, most_tys}
use Rattle.mlir_tree.specs.TyView.{ty_of}

pub ty_falls : (n : TyNode) → max (deep-TyNode n) 0 ≤ ty_size (ty_of n)
ty_falls (Int s w) = omega arith
ty_falls Index = omega arith
ty_falls (Func xs ys) = omega (arith, most_tys xs, most_tys ys)
ty_falls (Word t) = omega arith
