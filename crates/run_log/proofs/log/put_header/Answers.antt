use Rattle.run_model.specs.LogText.{header}
use Rattle.run_log.proofs.log.put_header.Goals as goal

pub returns : goal.returns
unfolding header
returns g c = c.put.ensures
