use Rattle.pdllrw_command.proofs.Lines.{tells_nothing}
use Rattle.pdllrw_command.proofs.whole.refuse.Goals as goal

pub returns-in-NoMemory-clause-tells : goal.returns-in-NoMemory-clause-tells
returns-in-NoMemory-clause-tells g c = tells_nothing c.args.stop.place c.args.stop.status (g.G.Sink.state c.args.log.now) c.in-NoMemory.is
