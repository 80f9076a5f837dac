use Rattle.std.proofs.Common.{◌≡◌, ◌≤◌, ◌-◌, length, drop}
use Rattle.mlir_tree.specs.Order.{tys_cmp}
use Rattle.mlir_tree.specs.Tree.{tys}
use Rattle.mlir_tree.specs.Measure.{ty_size, tys_size}
use Rattle.mlir_tree.proofs.ty.+cmp_ty.Given as goal

abbrev pub invariant-cmp_tys-loop-at : goal.invariant-cmp_tys-loop-at
invariant-cmp_tys-loop-at l =
    (l.at ≤ length l.a) × (l.at ≤ length l.b) × (tys_cmp (tys (drop l.at l.a)) (tys (drop l.at l.b)) ≡ tys_cmp (tys l.a) (tys l.b))

abbrev pub decreases-cmp_tys-loop-at : goal.decreases-cmp_tys-loop-at
decreases-cmp_tys-loop-at l = length l.a - l.at

abbrev pub decreases-Ty::cmp : goal.decreases-Ty::cmp
decreases-Ty::cmp l = ty_size l.self.now

abbrev pub decreases-cmp_tys : goal.decreases-cmp_tys
decreases-cmp_tys l = tys_size (tys l.a.now)
