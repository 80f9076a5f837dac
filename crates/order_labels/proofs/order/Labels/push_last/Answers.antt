use Rattle.std.proofs.Common.{◌∙◌, ◌∷◌, ◌++◌, [], subst, ap, refl, arith}
use Rattle.order_labels.specs.Lists.{IsIn}
use Rattle.order_labels.specs.Chain.{link_at}
use Rattle.order_labels.proofs.Positions.{placed_head}
use Rattle.order_labels.proofs.Seen.{put_last}
use Rattle.order_labels.proofs.Keeping.{put_labels}
use Rattle.order_labels.proofs.order.Labels.push_last.Goals as goal

pub place-slot-requires-clause-placed : goal.place-slot-requires-clause-placed
place-slot-requires-clause-placed c = placed_head (link_at c.self.inside.links) c.self.inside.count c.self.invariant.order

pub invariant_of-self : goal.invariant_of-self
invariant_of-self c =
    put_labels c.self.inside.links c.place-slot.new.links c.self.inside.slots c.enter.new.slots c.self.inside.count c.self.inside.spare c.place-slot.result.0 0 c.args.id c.self.invariant
    c.place-slot.ensures.places (λ i. c.requires.absent (subst (λ v. IsIn c.args.id v.ids) c.self.view_is i)) c.enter.ensures.here c.enter.ensures.others
    c.place-slot.ensures.len c.place-slot.ensures.capacity c.place-slot.ensures.head c.enter.ensures.room (omega (arith, c.requires.room, ap (λ v. v.spare) c.self.view_is))

pub returns-clause-ids : goal.returns-clause-ids
returns-clause-ids c =
    put_last (link_at c.self.inside.links) (link_at c.place-slot.new.links) c.self.inside.count c.place-slot.result.0 0 c.args.id c.place-slot.ensures.places refl c.self.invariant.order
    ∙ ap (λ v. v.ids ++ c.args.id ∷ []) c.self.view_is
