use Rattle.std.proofs.Common.{◌∙◌, sym, subst, ap}
use Rattle.order_labels.specs.Lists.{IsIn, IsFollowed}
use Rattle.order_labels.specs.Chain.{link_at}
use Rattle.order_labels.specs.Labels.{id_at}
use Rattle.order_labels.proofs.Seen.{known_some, followed}
use Rattle.order_labels.proofs.order.Labels.next.Goals as goal

pub find-at-requires : goal.find-at-requires
find-at-requires c =
    record { there = known_some c.self.inside.slots (link_at c.self.inside.links) c.self.inside.count c.self.invariant.finds c.args.id (subst (λ v. IsIn c.args.id v.ids) (sym c.self.view_is) c.requires) }

pub returns : goal.returns
returns c =
    let l = link_at c.self.inside.links in
    let (i, is) = c.self.invariant.finds.only c.args.id c.find-at.result c.find-at.ensures in
    subst (λ o. IsFollowed c.args.id c.args.self.now.ids o) (sym (c.id_of.ensures ∙ ap (λ k. id_at l k.next.0) c.look.ensures))
    (subst (λ y. IsFollowed y c.args.self.now.ids (id_at l (l c.find-at.result.0).next.0)) is
    (followed l c.self.inside.count c.self.invariant.order c.args.self.now.ids (ap (λ v. v.ids) c.self.view_is) c.find-at.result.0 i))
