-- Each child of an attribute is smaller than the attribute.
use Rattle.std.specs.Prelude.{◌≤◌, max}
use Rattle.std.proofs.Common.{arith}
use Rattle.std.specs.Prelude.{ℕ, ◌+◌, List, [], ◌∷◌}
use denote.Param.Weighed.{most}
use Rattle.mlir_tree.specs.Tree.{Attr, entries}
use Rattle.mlir_tree.specs.declared.attr.AttrNode.{AttrNode}
use Rattle.mlir_tree.specs.declared.attr.AttrNode.TheVariants.{Unit, Int, Num, Str, Sym, OfTy, Array, Dict, Kept}
use Rattle.mlir_tree.specs.declared.attr.Attr.TheDeep.{deep-AttrNode}
use Rattle.mlir_tree.specs.declared.attr.Attr.TheShapes.{weighed-AttrNode-Dict-0-at-2}
use Rattle.mlir_tree.specs.Measure.{attr_size, most_attrs, entries_size}
use Rattle.mlir_tree.specs.AttrView.{attr_of}

pub most_entries : (ts : List (List ℕ × Attr)) → most (weighed-AttrNode-Dict-0-at-2.weight Attr (λ y. attr_size y + 1)) ts ≤ entries_size (entries ts)
most_entries [] = omega arith
most_entries (t ∷ ts) = omega (arith, most_entries ts)

pub attr_falls : (n : AttrNode) → max (deep-AttrNode n) 0 ≤ attr_size (attr_of n)
attr_falls Unit = omega arith
attr_falls (Int n t) = omega arith
attr_falls (Num s t) = omega arith
attr_falls (Str s t) = omega arith
attr_falls (Sym ns) = omega arith
attr_falls (OfTy t) = omega arith
attr_falls (Array xs) = omega (arith, most_attrs xs)
attr_falls (Dict es) = omega (arith, most_entries es)
attr_falls (Kept s t) = omega arith
