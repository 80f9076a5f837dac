use Rattle.std.proofs.Common.{map}
use Rattle.mlir_tree.specs.declared.rows.Rows.{Rows}
use Rattle.row_index.specs.declared.index.RowIndex.{RowIndex}
use Rattle.row_matcher.specs.View.{thing_of}
use Rattle.pdll_patterns.specs.View.{action_of}
use Rattle.rewrite_step.specs.View.{progress_of}
use Rattle.rewrite_step.proofs.Stepping.{step_stops, accepted_after, still_laid_out}
use Rattle.rewrite_step.proofs.step.step.Goals as goal

pub accepted-requires : goal.accepted-requires
accepted-requires c = record {
  layout =
      still_laid_out c.rewrites_keep_layout.ensures (map thing_of c.args.given.now) c.args.root c.args.rows.now c.as_slice.result.now (progress_of c.begin-progress.result)
      (progress_of c.act_all.new.self) (map action_of c.args.actions.now) c.requires.layout c.as_slice.ensures c.begin-progress.ensures c.in_default.ensures;
}

pub returns-in-Err-clause-rows : goal.returns-in-Err-clause-rows
returns-in-Err-clause-rows c = λ p same.
    step_stops (λ (it : Rows × RowIndex). it.0) p (map thing_of c.args.given.now) c.args.root c.args.rows.now c.as_slice.result.now (progress_of c.begin-progress.result)
    (progress_of c.act_all.new.self) (map action_of c.args.actions.now) c.in-Err.e c.as_slice.ensures c.begin-progress.ensures same c.in-Err.ensures

pub returns-clause-rows : goal.returns-clause-rows
returns-clause-rows c = λ p same.
    accepted_after (λ (it : Rows × RowIndex). it.0) p (map thing_of c.args.given.now) c.args.root c.args.rows.now c.as_slice.result.now (progress_of c.begin-progress.result)
    (progress_of c.act_all.new.self) (map action_of c.args.actions.now) c.accepted.result c.as_slice.ensures c.begin-progress.ensures same c.in_default.ensures c.accepted.ensures.rows
