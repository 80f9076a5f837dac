use Rattle.std.proofs.Common.{◌≡◌, ◌≤◌, ◌-◌, length, drop}
use Rattle.mlir_tree.specs.Order.{attrs_cmp, entries_cmp}
use Rattle.mlir_tree.specs.Tree.{attrs, entries}
use Rattle.mlir_tree.specs.Measure.{attr_size, attrs_size, entries_size}
use Rattle.mlir_tree.proofs.attr.+cmp_attr.Given as goal

abbrev pub invariant-cmp_attrs-loop-at : goal.invariant-cmp_attrs-loop-at
invariant-cmp_attrs-loop-at l =
    (l.at ≤ length l.a) × (l.at ≤ length l.b) × (attrs_cmp (attrs (drop l.at l.a)) (attrs (drop l.at l.b)) ≡ attrs_cmp (attrs l.a) (attrs l.b))

abbrev pub decreases-cmp_attrs-loop-at : goal.decreases-cmp_attrs-loop-at
decreases-cmp_attrs-loop-at l = length l.a - l.at

abbrev pub invariant-cmp_dicts-loop-at : goal.invariant-cmp_dicts-loop-at
invariant-cmp_dicts-loop-at l =
    (l.at ≤ length l.a) × (l.at ≤ length l.b) × (entries_cmp (entries (drop l.at l.a)) (entries (drop l.at l.b)) ≡ entries_cmp (entries l.a) (entries l.b))

abbrev pub decreases-cmp_dicts-loop-at : goal.decreases-cmp_dicts-loop-at
decreases-cmp_dicts-loop-at l = length l.a - l.at

abbrev pub decreases-Attr::cmp : goal.decreases-Attr::cmp
decreases-Attr::cmp l = attr_size l.self.now

abbrev pub decreases-cmp_attrs : goal.decreases-cmp_attrs
decreases-cmp_attrs l = attrs_size (attrs l.a.now)

abbrev pub decreases-cmp_dicts : goal.decreases-cmp_dicts
decreases-cmp_dicts l = entries_size (entries l.a.now)
