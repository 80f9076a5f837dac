use Rattle.std.proofs.Common.{◌≡◌, drop}
use Rattle.rewrite_model.specs.Holding.{result_uses}
use Rattle.row_matcher.proofs.natives.has_no_use.Given as goal

abbrev pub invariant-loop-r : goal.invariant-loop-r
invariant-loop-r l = result_uses (drop l.r-index l.rows) l.id ≡ result_uses l.rows l.id
