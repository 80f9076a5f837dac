use Rattle.std.proofs.Common.{◌≡◌, ◌∙◌, Some, sym, subst, ap₂}
use Rattle.std.specs.Prelude.{slice_get}
use Rattle.std.specs.Ordering.{nat_cmp}
use Rattle.order_labels.specs.Lists.{IsIn}
use Rattle.order_labels.specs.Chain.{link_at}
use Rattle.order_labels.proofs.Seen.{known_some, got_slot, cmp_decided}
use Rattle.order_labels.proofs.order.Labels.cmp.Goals as goal

pub find-requires : goal.find-requires
find-requires c =
    record { there = known_some c.self.inside.slots (link_at c.self.inside.links) c.self.inside.count c.self.invariant.finds c.args.a (subst (λ v. IsIn c.args.a v.ids) (sym c.self.view_is) c.requires.a_in) }

pub find-requires-2 : goal.find-requires-2
find-requires-2 c =
    record { there = known_some c.self.inside.slots (link_at c.self.inside.links) c.self.inside.count c.self.invariant.finds c.args.b (subst (λ v. IsIn c.args.b v.ids) (sym c.self.view_is) c.requires.b_in) }

pub returns : goal.returns
returns c = λ i j p q.
    let l = link_at c.self.inside.links in
    let n = c.self.inside.count in
    let m = c.self.inside.slots in
    let at = got_slot m l n c.self.invariant.finds c.args.a i c.find.result (subst (λ v. slice_get v.ids i ≡ Some c.args.a) (sym c.self.view_is) p) c.find.ensures in
    let bt = got_slot m l n c.self.invariant.finds c.args.b j c.find-2.result (subst (λ v. slice_get v.ids j ≡ Some c.args.b) (sym c.self.view_is) q) c.find-2.ensures in
    c.cmp.ensures ∙ (ap₂ (λ x y. nat_cmp x.label y.label) c.look-first.ensures c.look-second.ensures ∙ cmp_decided l n c.self.invariant.order c.find.result.0 c.find-2.result.0 i j at bt)
