use Rattle.std.proofs.Common.{ap, refl, subst, sym}
use Rattle.slab.specs.Slab.{ContainsKey}
use Rattle.order_labels.specs.Chain.{link_at}
use Rattle.order_labels.proofs.Writes.{inserts, updated, differs}
use Rattle.order_labels.proofs.links.splice.Goals as goal

pub returns-clause-inserts : goal.returns-clause-inserts
returns-clause-inserts c =
    let p_is = ap (λ l. l.prev.0) c.look.ensures in
    inserts (link_at c.args.links.now) (link_at c.insert_reserved.new.self) (link_at c.set_next.new.links) (link_at c.set_prev.new.links) c.insert_reserved.result c.args.at.0 c.look.result.prev.0 _ p_is
    (updated _ _ _ _ c.insert_reserved.ensures.updates) c.set_next.ensures.sets c.set_prev.ensures.sets refl refl
    (differs c.args.links.now _ _ c.insert_reserved.ensures.was_vacant c.requires.at_there)
    (differs c.args.links.now _ _ c.insert_reserved.ensures.was_vacant (subst (ContainsKey c.args.links.now) (sym p_is) c.requires.prev_there))
