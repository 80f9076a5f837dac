use Rattle.std.proofs.Common.{◌∙◌, sym, ap}
use Rattle.use_lists.specs.Nodes.{link_at}
use Rattle.use_lists.proofs.Moving.{unheaded}
use Rattle.use_lists.proofs.uses.forget_unused.Goals as goal

pub returns-then-look-eq0-clause-rings : goal.returns-then-look-eq0-clause-rings
returns-then-look-eq0-clause-rings c = λ w.
    (unheaded (link_at c.args.links.now) (link_at c.forget.new.map) c.requires.rings c.args.v (sym (ap (λ k. k.count) c.look.ensures) ∙ c.if-look-eq0.true) c.forget.ensures.puts w).0

pub returns-then-look-eq0-clause-nodes : goal.returns-then-look-eq0-clause-nodes
returns-then-look-eq0-clause-nodes c = λ w.
    (unheaded (link_at c.args.links.now) (link_at c.forget.new.map) c.requires.rings c.args.v (sym (ap (λ k. k.count) c.look.ensures) ∙ c.if-look-eq0.true) c.forget.ensures.puts w).1
