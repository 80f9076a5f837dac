use Rattle.pdll_sizes.proofs.Maps.{is_put}
use Rattle.pdll_sizes.proofs.sizes.put.Goals as goal

pub returns-clause-put : goal.returns-clause-put
returns-clause-put c = is_put c.args.name c.args.size c.args.all.now.entries c.insert.new.self.entries c.in_ok-insert.ensures.entries
