use Rattle.std.proofs.Common.{◌∙◌, sym, ap, subst}
use Rattle.mlir_tree.specs.AttrView.{attr_of}
use Rattle.mlir_tree.specs.Range.{IsSound}
use Rattle.native_set.proofs.Wrapping.{negates}
use Rattle.native_set.proofs.arithmetic.neg_int.Goals as goal

pub returns-in_ok-integer-in-Int : goal.returns-in_ok-integer-in-Int
returns-in_ok-integer-in-Int c =
    negates c.args.a.now c.in-Int.number c.in-Int.ty _ c.bits.result
    (sym c.a.view_is ∙ ap attr_of c.in-Int.is)
    (subst IsSound c.a.view_is c.a.invariant)
    c.bits.ensures c.in_ok-integer-in-Int.ensures
