use Rattle.std.proofs.Common.{◌≡◌, ◌+◌, ◌≤◌, drop}
use Rattle.std.specs.Prelude.{min, count_by}
use Rattle.mlir_tree.specs.Edits.{val_eq}
use Rattle.row_matcher.proofs.natives.count_in.Given as goal

abbrev pub invariant-loop-w : goal.invariant-loop-w
invariant-loop-w l = record {
  all : min 2 (l.count + count_by (val_eq l.v) (drop l.w-index l.operands)) ≡ min 2 (l.seen + count_by (val_eq l.v) l.operands);
  small : l.count ≤ 2;
}
