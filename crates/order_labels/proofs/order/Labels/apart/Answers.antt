use Rattle.std.proofs.Common.{subst}
use Rattle.order_labels.specs.Lists.{IsApart}
use Rattle.order_labels.specs.Chain.{link_at, slots_of}
use Rattle.order_labels.proofs.Seen.{apart_ids}
use Rattle.order_labels.proofs.order.Labels.apart.Goals as goal

pub returns : goal.returns
returns c =
    let l = link_at c.self.inside.links in
    subst (λ v. IsApart v.ids) c.self.view_is (apart_ids c.self.inside.slots l 0 (slots_of l c.self.inside.count) c.self.invariant.order.chain c.self.invariant.finds.there)
