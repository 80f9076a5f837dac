use Rattle.std.proofs.Common.{◌≡◌, drop}
use Rattle.std.specs.Prelude.{count_by}
use Rattle.rewrite_model.specs.Holding.{is_result_of}
use Rattle.row_matcher.proofs.natives.holds_no_result.Given as goal

abbrev pub invariant-loop-v : goal.invariant-loop-v
invariant-loop-v l = count_by (is_result_of l.id) (drop l.v-index l.operands) ≡ count_by (is_result_of l.id) l.operands
