use Rattle.std.proofs.Common.{◌≡◌, take}
use Rattle.mlir_tree.proofs.ty.copy_tys.Given as goal

abbrev pub invariant-loop-ty : goal.invariant-loop-ty
invariant-loop-ty l = l.copied ≡ take l.ty-index l.all
