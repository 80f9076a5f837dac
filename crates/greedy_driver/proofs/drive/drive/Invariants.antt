use Rattle.std.proofs.Common.{map}
use Rattle.mlir_tree.specs.declared.rows.Rows.{Rows}
use Rattle.mlir_tree.specs.WellFormed.{IsWellFormed}
use Rattle.row_index.specs.Indexing.{Indexes}
use Rattle.rewrite_model.specs.Running.{Course, Runs, Reaches}
use Rattle.pdll_patterns.specs.View.{pattern_of}
use Rattle.greedy_driver.specs.Course.{behind}
use Rattle.greedy_driver.proofs.drive.drive.Given as goal

abbrev pub invariant-loop-taken : goal.invariant-loop-taken
invariant-loop-taken l = record {
  well_formed : IsWellFormed l.rows;
  index : Indexes l.index l.rows.rows;
  runs : (c : Course) → Runs l.order (map pattern_of l.patterns) l.left l.rows c → Runs l.order (map pattern_of l.patterns) l.fn.bound l.fn.rows (behind l.taken c);
  reaches : (k : Rows) → Reaches l.order (map pattern_of l.patterns) l.left l.rows k → Reaches l.order (map pattern_of l.patterns) l.fn.bound l.fn.rows k;
}

abbrev pub decreases-loop-taken : goal.decreases-loop-taken
decreases-loop-taken l = l.left
