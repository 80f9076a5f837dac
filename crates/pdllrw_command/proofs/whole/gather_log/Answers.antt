use Rattle.std.proofs.lemmas.Result.{err_from_is_err_and}
use Rattle.run_model.specs.LogText.{log_text}
use Rattle.pdllrw_command.proofs.Gathered.{gathering_fails, flushes}
use Rattle.pdllrw_command.proofs.whole.gather_log.Goals as goal

pub returns-in_err-put_log-clause-writes : goal.returns-in_err-put_log-clause-writes
returns-in_err-put_log-clause-writes g c =
    let p = err_from_is_err_and c.from_residual.result c.from_residual.ensures.1 in
    let before = c.args.gathered.now in
    let now = c.put_log.new.sink in
    gathering_fails g.S.Sink.state before.sink now.sink before.held.now.items now.held.now.items before.done now.done (log_text c.args.run.now.taken c.args.run.now.ending) c.requires c.from_residual.result p.0 _ p.1 c.in_err-put_log.ensures

pub returns-clause-writes : goal.returns-clause-writes
returns-clause-writes g c =
    let before = c.args.gathered.now in
    let now = c.put_log.new.sink in
    let after = c.flush.new.self in
    let flushed = c.flush.ensures in
    flushes g.S.Sink.state before.sink now.sink before.held.now.items now.held.now.items before.done now.done (log_text c.args.run.now.taken c.args.run.now.ending) c.requires _ c.flush.result after.sink after.held.now.items after.done
    c.in_ok-put_log.ensures flushed.bytes flushed.empty flushed.failed flushed.never_falls flushed.arrives
