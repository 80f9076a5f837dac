use Rattle.std.proofs.lemmas.Result.{err_from_is_err_and}
use Rattle.mlir_print.specs.ModuleText.{module_text}
use Rattle.pdllrw_command.proofs.Gathered.{gathering_fails, flushes}
use Rattle.pdllrw_command.proofs.whole.gather_module.Goals as goal

pub returns-in_err-print_rows-clause-writes : goal.returns-in_err-print_rows-clause-writes
returns-in_err-print_rows-clause-writes g c =
    let p = err_from_is_err_and c.from_residual.result c.from_residual.ensures.1 in
    let before = c.args.gathered.now in
    let now = c.print_rows.new.sink in
    gathering_fails g.S.Sink.state before.sink now.sink before.held.now.items now.held.now.items before.done now.done (module_text c.args.rows.now.rows) c.requires.empty c.from_residual.result p.0 _ p.1 c.in_err-print_rows.ensures

pub returns-clause-writes : goal.returns-clause-writes
returns-clause-writes g c =
    let before = c.args.gathered.now in
    let now = c.print_rows.new.sink in
    let after = c.flush.new.self in
    let flushed = c.flush.ensures in
    flushes g.S.Sink.state before.sink now.sink before.held.now.items now.held.now.items before.done now.done (module_text c.args.rows.now.rows) c.requires.empty _ c.flush.result after.sink after.held.now.items after.done
    c.in_ok-print_rows.ensures flushed.bytes flushed.empty flushed.failed flushed.never_falls flushed.arrives
