use Rattle.rewrite_step.specs.View.{start_of, progress_of}
use Rattle.rewrite_step.proofs.Outcomes.{create_goes, create_stops}
use Rattle.rewrite_step.proofs.progress.Progress.create_with.Goals as goal

pub returns : goal.returns
returns c =
    create_goes (start_of c.args.start.now) (progress_of c.args.self.now) (progress_of c.add_row.new.self) c.args.name.now c.args.operands c.as_slice.result.now c.args.entries.now c.args.types
    c.as_slice-rows.result.now c.in-Ok.home c.as_slice-rows.ensures c.as_slice.ensures c.in-Ok.ensures c.in_ok-add_row.ensures

pub returns-in-Err : goal.returns-in-Err
returns-in-Err c =
    create_stops (λ u. progress_of c.args.self.now) (start_of c.args.start.now) (progress_of c.args.self.now) c.args.name.now c.args.operands c.as_slice.result.now c.args.entries.now c.args.types
    c.as_slice-rows.result.now c.in-Err.e c.as_slice-rows.ensures c.as_slice.ensures c.in-Err.ensures
