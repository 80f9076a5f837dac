use Rattle.std.proofs.Common.{◌≡◌, drop}
use Rattle.std.specs.List.{list_all}
use Rattle.mlir_tree.specs.Module.{is_value}
use Rattle.row_matcher.proofs.matching.are_values.Given as goal

abbrev pub invariant-loop-v : goal.invariant-loop-v
invariant-loop-v l = list_all (is_value l.rows) (drop l.v-index l.vs) ≡ list_all (is_value l.rows) l.vs
