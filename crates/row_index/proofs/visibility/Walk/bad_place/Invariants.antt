use Rattle.std.proofs.Common.{◌≡◌, not, drop}
use Rattle.std.specs.List.{position_from}
use Rattle.mlir_tree.specs.declared.value.Val.{Val}
use Rattle.row_index.specs.Walking.{sees_at, bad_place_at}
use Rattle.row_index.proofs.visibility.Walk.bad_place.Given as goal

abbrev pub invariant-loop-k : goal.invariant-loop-k
invariant-loop-k l = position_from (λ (v : Val). not (sees_at l.self.rows.now l.at v)) l.k (drop l.k l.operands) ≡ bad_place_at l.self.rows.now l.at
