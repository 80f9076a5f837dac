use Rattle.std.proofs.Common.{map, subst}
use Rattle.rewrite_model.specs.Running.{stays}
use Rattle.pdll_patterns.specs.View.{pattern_of}
use Rattle.greedy_driver.specs.Course.{IsTurn}
use Rattle.greedy_driver.proofs.Turns.{runs_on, reaches_on}
use Rattle.greedy_driver.proofs.drive.drive.Goals as goal

pub returns-in_err-index-clause-reached : goal.returns-in_err-index-clause-reached
returns-in_err-index-clause-reached c = stays

pub loop-taken-preserved : goal.loop-taken-preserved
loop-taken-preserved c =
    let ps = map pattern_of c.args.patterns.now in
    let turn = subst (IsTurn c.args.order ps c.loop-taken.left c.loop-taken.rows c.go_on.new.rows) c.in-Took.is c.in_ok-ending.ensures.turn in
    record {
      well_formed = c.go_on.ensures.well_formed;
      index = turn.1.1;
      runs = runs_on c.args.order ps c.loop-taken.left c.args.bound c.args.rows.now c.loop-taken.rows c.go_on.new.rows c.in-Took.told c.loop-taken.taken c.push.new.self turn.0 turn.1.0 c.in_ok-push-in-Took.ensures.ok c.loop-taken.invariant.runs;
      reaches = reaches_on c.args.order ps c.loop-taken.left c.args.bound c.args.rows.now c.loop-taken.rows c.go_on.new.rows c.in-Took.told turn.0 turn.1.0 c.loop-taken.invariant.reaches;
    }
