use Rattle.std.proofs.Common.{Err, inr, ap}
use Rattle.pdllrw_command.proofs.Refusals.{module_refused}
use Rattle.pdllrw_command.proofs.reading.tree_of.Goals as goal

pub returns-in-Err-Fault-clause-stopped : goal.returns-in-Err-Fault-clause-stopped
returns-in-Err-Fault-clause-stopped c =
    let f = c.in-Err-Fault.fault in
    let is = ap Err c.in-Err-Fault.field-0-is in
    let ensured = c.in-Err-Fault.ensures in
    inr (f, cc (c.bad_module.ensures.status, c.in-Err-Fault.fault-is), module_refused c.args.bytes.now c.bad_module.result.place f (ensured.kinds f is) c.requires (ensured.not_spelled f is) (ensured.within f is) (cc (c.bad_module.ensures.place, c.in-Err-Fault.fault-is)))
