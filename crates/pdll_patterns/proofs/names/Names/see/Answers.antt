use Rattle.std.proofs.Common.{refl}
use Rattle.pdll_patterns.proofs.Sight.{saw}
use Rattle.pdll_patterns.proofs.names.Names.see.Goals as goal

pub returns : goal.returns
returns c = λ names h.
    saw c.args.name.now c.args.x c.args.self.now (record { matched = c.args.self.now.matched; own = c.insert.new.self }) names c.in_ok-insert.ensures.updates refl h
