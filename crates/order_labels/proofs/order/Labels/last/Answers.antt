use Rattle.std.proofs.Common.{◌∙◌, ap}
use Rattle.order_labels.specs.Chain.{link_at}
use Rattle.order_labels.specs.Labels.{id_at}
use Rattle.order_labels.proofs.Seen.{last_id}
use Rattle.order_labels.proofs.order.Labels.last.Goals as goal

pub returns : goal.returns
returns c =
    let l = link_at c.self.inside.links in
    c.id_of.ensures ∙ (ap (λ k. id_at l k.prev.0) c.look.ensures ∙ last_id l c.self.inside.count c.self.invariant.order c.args.self.now.ids (ap (λ v. v.ids) c.self.view_is))
