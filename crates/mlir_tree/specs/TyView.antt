-- What a node of a type stands for, each child seen as what it stands for.
use Rattle.std.specs.Prelude.{ℕ}
use Rattle.mlir_tree.specs.Tree.{Ty, int, index, func, word, tys}
use Rattle.mlir_tree.specs.declared.ty.TyNode.{TyNode}
use Rattle.mlir_tree.specs.declared.ty.TyNode.TheVariants.{Int, Index, Func, Word}

abbrev pub ty_of : TyNode → Ty
ty_of (Int s w) = int s w
ty_of Index = index
ty_of (Func xs ys) = func (tys xs) (tys ys)
ty_of (Word t) = word t

-- The place of the node's variant among those declared.
abbrev pub node_rank : TyNode → ℕ
node_rank (Int s w) = 0
node_rank Index = 1
node_rank (Func xs ys) = 2
node_rank (Word t) = 3
