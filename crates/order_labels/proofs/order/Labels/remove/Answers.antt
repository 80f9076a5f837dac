use Rattle.std.proofs.Common.{◌≡◌, ◌∙◌, ◌+◌, ◌-◌, nat_eq, sym, subst, ap, arith}
use Rattle.std.specs.HashMap.{get as get_slot}
use Rattle.order_labels.specs.Lists.{IsIn, TakesOut}
use Rattle.order_labels.specs.Chain.{link_at, slots_of, IsOrder}
use Rattle.order_labels.specs.Labels.{ids_of, IsLabels}
use Rattle.order_labels.proofs.Placing.{slots_len}
use Rattle.order_labels.proofs.Seen.{known_some, take_ids}
use Rattle.order_labels.proofs.Keeping.{take_labels, some_in}
use Rattle.order_labels.proofs.order.Labels.remove.Goals as goal

pub find-at-requires : goal.find-at-requires
find-at-requires c =
    record { there = known_some c.self.inside.slots (link_at c.self.inside.links) c.self.inside.count c.self.invariant.finds c.args.id (subst (λ v. IsIn c.args.id v.ids) (sym c.self.view_is) c.requires) }

pub overflow_sub-self : goal.overflow_sub-self
overflow_sub-self c =
    let l = link_at c.self.inside.links in
    let n = c.self.inside.count in
    let (i, is) = c.self.invariant.finds.only c.args.id c.find-at.result c.find-at.ensures in
    omega (arith, slots_len l n, some_in c.find-at.result.0 (slots_of l n) i)

pub take-requires-clause-order : goal.take-requires-clause-order
take-requires-clause-order c =
    let l = link_at c.self.inside.links in
    let n = c.self.inside.count in
    let (i, is) = c.self.invariant.finds.only c.args.id c.find-at.result c.find-at.ensures in
    let e : n ≡ n - 1 + 1 = omega (arith, slots_len l n, some_in c.find-at.result.0 (slots_of l n) i) in
    subst (λ k. IsOrder l k) e c.self.invariant.order

pub take-requires-clause-at_in : goal.take-requires-clause-at_in
take-requires-clause-at_in c =
    let l = link_at c.self.inside.links in
    let n = c.self.inside.count in
    let (i, is) = c.self.invariant.finds.only c.args.id c.find-at.result c.find-at.ensures in
    let e : n ≡ n - 1 + 1 = omega (arith, slots_len l n, some_in c.find-at.result.0 (slots_of l n) i) in
    subst (λ k. IsIn c.find-at.result.0 (slots_of l k)) e i

pub take-requires-clause-head : goal.take-requires-clause-head
take-requires-clause-head c =
    let l = link_at c.self.inside.links in
    let n = c.self.inside.count in
    let (i, is) = c.self.invariant.finds.only c.args.id c.find-at.result c.find-at.ensures in
    c.self.invariant.head (omega (arith, slots_len l n, some_in c.find-at.result.0 (slots_of l n) i))

pub invariant_of-self : goal.invariant_of-self
invariant_of-self c =
    let l = link_at c.self.inside.links in
    let n = c.self.inside.count in
    let m = c.self.inside.slots in
    let after = c.leave.new.slots in
    let (i, is) = c.self.invariant.finds.only c.args.id c.find-at.result c.find-at.ensures in
    let e : n ≡ n - 1 + 1 = omega (arith, slots_len l n, some_in c.find-at.result.0 (slots_of l n) i) in
    take_labels c.self.inside.links c.take.new.links m after (n - 1) c.self.inside.spare c.find-at.result.0 (subst (λ k. IsLabels c.self.inside.links m k c.self.inside.spare) e c.self.invariant)
    c.take.ensures.takes (ap (get_slot nat_eq after) is ∙ c.leave.ensures.here) (λ y n. c.leave.ensures.others y (λ z. n (z ∙ sym is)))
    c.take.ensures.len c.take.ensures.capacity c.take.ensures.head c.leave.ensures.room

pub returns-clause-taken : goal.returns-clause-taken
returns-clause-taken c =
    let l = link_at c.self.inside.links in
    let n = c.self.inside.count in
    let now = ids_of (link_at c.take.new.links) (n - 1) in
    let (i, is) = c.self.invariant.finds.only c.args.id c.find-at.result c.find-at.ensures in
    let e : n - 1 + 1 ≡ n = omega (arith, slots_len l n, some_in c.find-at.result.0 (slots_of l n) i) in
    subst (λ v. TakesOut c.args.id v.ids now) c.self.view_is
    (subst (λ k. TakesOut c.args.id (ids_of l k) now) e
    (subst (λ y. TakesOut y (ids_of l (n - 1 + 1)) now) is (take_ids l (link_at c.take.new.links) (n - 1) c.find-at.result.0 c.take.ensures.takes)))
