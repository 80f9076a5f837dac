use Rattle.run_log.proofs.Unique.{one_run}
use Rattle.run_log.proofs.laws.logs_tell_one_run.Goals as goal

pub returns : goal.returns
returns c = one_run
