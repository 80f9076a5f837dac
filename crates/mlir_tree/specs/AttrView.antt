-- What a node of an attribute stands for, each child seen as what it stands for.
use Rattle.std.specs.Prelude.{ℕ}
use Rattle.mlir_tree.specs.Tree.{Attr, unit, int_attr, num, str, sym, of_ty, array, dict, kept, attrs, entries}
use Rattle.mlir_tree.specs.declared.attr.AttrNode.{AttrNode}
use Rattle.mlir_tree.specs.declared.attr.AttrNode.TheVariants.{Unit, Int, Num, Str, Sym, OfTy, Array, Dict, Kept}

abbrev pub attr_of : AttrNode → Attr
attr_of Unit = unit
attr_of (Int n t) = int_attr n t
attr_of (Num s t) = num s t
attr_of (Str s t) = str s t
attr_of (Sym ns) = sym ns
attr_of (OfTy t) = of_ty t
attr_of (Array xs) = array (attrs xs)
attr_of (Dict es) = dict (entries es)
attr_of (Kept s t) = kept s t

-- The place of the node's variant among those declared.
abbrev pub node_rank : AttrNode → ℕ
node_rank Unit = 0
node_rank (Int n t) = 1
node_rank (Num s t) = 2
node_rank (Str s t) = 3
node_rank (Sym ns) = 4
node_rank (OfTy t) = 5
node_rank (Array xs) = 6
node_rank (Dict es) = 7
node_rank (Kept s t) = 8
