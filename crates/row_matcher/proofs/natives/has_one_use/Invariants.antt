use Rattle.std.proofs.Common.{◌≡◌, ◌+◌, ◌≤◌, drop}
use Rattle.std.specs.Prelude.{min}
use Rattle.rewrite_model.specs.Holding.{uses}
use Rattle.row_matcher.proofs.natives.has_one_use.Given as goal

abbrev pub invariant-loop-r : goal.invariant-loop-r
invariant-loop-r l = record {
  all : min 2 (l.count + uses (drop l.r-index l.rows) l.v) ≡ min 2 (uses l.rows l.v);
  small : l.count ≤ 2;
}
