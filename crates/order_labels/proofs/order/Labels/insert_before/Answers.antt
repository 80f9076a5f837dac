use Rattle.std.proofs.Common.{◌+◌, sym, subst, ap, arith}
use Rattle.order_labels.specs.Lists.{IsIn, PutsBefore}
use Rattle.order_labels.specs.Chain.{link_at}
use Rattle.order_labels.specs.Labels.{ids_of}
use Rattle.order_labels.proofs.Positions.{placed_in}
use Rattle.order_labels.proofs.Placing.{slot_not_head}
use Rattle.order_labels.proofs.Seen.{known_some, put_before}
use Rattle.order_labels.proofs.Keeping.{put_labels}
use Rattle.order_labels.proofs.order.Labels.insert_before.Goals as goal

pub find-at-requires : goal.find-at-requires
find-at-requires c =
    record { there = known_some c.self.inside.slots (link_at c.self.inside.links) c.self.inside.count c.self.invariant.finds c.args.at (subst (λ v. IsIn c.args.at v.ids) (sym c.self.view_is) c.requires.at_in) }

pub place-slot-requires-clause-placed : goal.place-slot-requires-clause-placed
place-slot-requires-clause-placed c =
    let (i, is) = c.self.invariant.finds.only c.args.at c.find-at.result c.find-at.ensures in
    placed_in (link_at c.self.inside.links) c.self.inside.count c.self.invariant.order c.find-at.result.0 i

pub invariant_of-self : goal.invariant_of-self
invariant_of-self c =
    put_labels c.self.inside.links c.place-slot.new.links c.self.inside.slots c.enter.new.slots c.self.inside.count c.self.inside.spare c.place-slot.result.0 c.find-at.result.0 c.args.id c.self.invariant
    c.place-slot.ensures.places (λ i. c.requires.absent (subst (λ v. IsIn c.args.id v.ids) c.self.view_is i)) c.enter.ensures.here c.enter.ensures.others
    c.place-slot.ensures.len c.place-slot.ensures.capacity c.place-slot.ensures.head c.enter.ensures.room (omega (arith, c.requires.room, ap (λ v. v.spare) c.self.view_is))

pub returns-clause-put : goal.returns-clause-put
returns-clause-put c =
    let l = link_at c.self.inside.links in
    let n = c.self.inside.count in
    let (i, is) = c.self.invariant.finds.only c.args.at c.find-at.result c.find-at.ensures in
    subst (λ v. PutsBefore c.args.id c.args.at v.ids (ids_of (link_at c.place-slot.new.links) (n + 1))) c.self.view_is
    (subst (λ y. PutsBefore c.args.id y (ids_of l n) (ids_of (link_at c.place-slot.new.links) (n + 1))) is
    (put_before l (link_at c.place-slot.new.links) n c.place-slot.result.0 c.find-at.result.0 c.args.id c.place-slot.ensures.places
    (slot_not_head l n c.self.invariant.order c.find-at.result.0 i)))
