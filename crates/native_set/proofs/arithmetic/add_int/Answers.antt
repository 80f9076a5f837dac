use Rattle.std.proofs.Common.{◌∙◌, sym, ap, subst, refl}
use Rattle.mlir_tree.specs.AttrView.{attr_of}
use Rattle.mlir_tree.specs.Range.{IsSound}
use Rattle.native_set.proofs.Wrapping.{adds}
use Rattle.native_set.proofs.arithmetic.add_int.Goals as goal

pub returns-in_ok-integer-in-Int-Int : goal.returns-in_ok-integer-in-Int-Int
returns-in_ok-integer-in-Int-Int c =
    let arm = c.in-Int-Int in
    adds c.args.a.now c.args.b.now arm.m arm.n arm.t arm.u _ c.bits.result c.bits-in-Int-Int.result
    (sym c.a.view_is ∙ ap attr_of arm.is-0)
    (sym c.b.view_is ∙ ap attr_of arm.is-1)
    (c.if-not-equal.ensures.0 refl)
    (subst IsSound c.a.view_is c.a.invariant)
    c.bits.ensures c.bits-in-Int-Int.ensures c.in_ok-integer-in-Int-Int.ensures
