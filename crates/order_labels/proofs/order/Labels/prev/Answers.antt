use Rattle.std.proofs.Common.{◌∙◌, sym, subst, ap}
use Rattle.order_labels.specs.Lists.{IsIn, IsPreceded}
use Rattle.order_labels.specs.Chain.{link_at}
use Rattle.order_labels.specs.Labels.{id_at}
use Rattle.order_labels.proofs.Seen.{known_some, preceded}
use Rattle.order_labels.proofs.order.Labels.prev.Goals as goal

pub find-at-requires : goal.find-at-requires
find-at-requires c =
    record { there = known_some c.self.inside.slots (link_at c.self.inside.links) c.self.inside.count c.self.invariant.finds c.args.id (subst (λ v. IsIn c.args.id v.ids) (sym c.self.view_is) c.requires) }

pub returns : goal.returns
returns c =
    let l = link_at c.self.inside.links in
    let (i, is) = c.self.invariant.finds.only c.args.id c.find-at.result c.find-at.ensures in
    subst (λ o. IsPreceded c.args.id c.args.self.now.ids o) (sym (c.id_of.ensures ∙ ap (λ k. id_at l k.prev.0) c.look.ensures))
    (subst (λ y. IsPreceded y c.args.self.now.ids (id_at l (l c.find-at.result.0).prev.0)) is
    (preceded l c.self.inside.count c.self.invariant.order c.args.self.now.ids (ap (λ v. v.ids) c.self.view_is) c.find-at.result.0 i))
