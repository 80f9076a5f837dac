use Rattle.std.proofs.Common.{◌∙◌, nat_eq, sym, subst, refl}
use Rattle.std.specs.HashMap.{get as get_slot}
use Rattle.order_labels.specs.Lists.{IsIn}
use Rattle.order_labels.specs.Chain.{link_at}
use Rattle.order_labels.proofs.Seen.{known_some, known_by}
use Rattle.order_labels.proofs.order.Labels.contains.Goals as goal

pub returns : goal.returns
returns c =
    let l = link_at c.self.inside.links in
    let n = c.self.inside.count in
    let m = c.self.inside.slots in (
      λ t. subst (λ v. IsIn c.args.id v.ids) c.self.view_is (known_by m l n c.self.invariant.finds (get_slot nat_eq m c.args.id) c.args.id refl (sym c.contains_key.ensures ∙ t)),
      λ i. c.contains_key.ensures ∙ known_some m l n c.self.invariant.finds c.args.id (subst (λ v. IsIn c.args.id v.ids) (sym c.self.view_is) i),
    )
