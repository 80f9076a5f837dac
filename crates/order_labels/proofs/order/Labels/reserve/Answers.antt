use Rattle.std.proofs.Common.{refl, arith}
use Rattle.order_labels.proofs.Keeping.{with_room}
use Rattle.order_labels.proofs.order.Labels.reserve.Goals as goal

pub invariant_of-self : goal.invariant_of-self
invariant_of-self c =
    let o = c.self.invariant in
    with_room c.self.inside.links c.self.inside.links c.self.inside.slots c.reserve.new.self c.self.inside.count c.self.inside.spare c.self.inside.spare o (λ x. refl) c.in_err-reserve.ensures.entries.2
    o.head o.first o.free (omega (arith, o.room, c.in_err-reserve.ensures.spare)) o.few

pub invariant_of-self-in_err-make_room : goal.invariant_of-self-in_err-make_room
invariant_of-self-in_err-make_room c =
    let o = c.self.invariant in
    let e = c.in_err-make_room.ensures in
    with_room c.self.inside.links c.make_room.new.links c.self.inside.slots c.reserve.new.self c.self.inside.count c.self.inside.spare c.self.inside.spare o e.same c.in_ok-reserve.ensures.entries.2
    (λ l. e.keys (o.head l)) e.first (e.kept c.self.inside.spare (λ l. o.head (omega (arith, l))) o.free) (omega (arith, o.room, c.in_ok-reserve.ensures.spare)) o.few

pub invariant_of-self-2 : goal.invariant_of-self-2
invariant_of-self-2 c =
    let o = c.self.invariant in
    let e = c.in_ok-make_room.ensures in
    with_room c.self.inside.links c.make_room.new.links c.self.inside.slots c.reserve.new.self c.self.inside.count c.self.inside.spare c.max-self-inside.result o e.same c.in_ok-reserve.ensures.entries.2
    (λ l. e.head) e.first (omega (arith, c.max-self-inside.ensures, e.room, e.kept c.self.inside.spare (λ l. o.head (omega (arith, l))) o.free))
    (omega (arith, c.max-self-inside.ensures, o.room, c.in_ok-reserve.ensures.spare, c.in_ok-reserve.ensures.ok))
    (omega (arith, c.max-self-inside.ensures, o.few, c.if-n-self.false))
