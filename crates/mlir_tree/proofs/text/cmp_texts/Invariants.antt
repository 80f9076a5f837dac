use Rattle.std.proofs.Common.{◌≡◌, ◌≤◌, ◌-◌, length, drop}
use Rattle.mlir_tree.specs.Order.{texts_cmp}
use Rattle.mlir_tree.proofs.text.cmp_texts.Given as goal

abbrev pub invariant-loop-at : goal.invariant-loop-at
invariant-loop-at l =
    (l.at ≤ length l.a) × (l.at ≤ length l.b) × (texts_cmp (drop l.at l.a) (drop l.at l.b) ≡ texts_cmp l.a l.b)

abbrev pub decreases-loop-at : goal.decreases-loop-at
decreases-loop-at l = length l.a - l.at
