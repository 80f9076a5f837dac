use Rattle.std.proofs.Common.{map, sym, ap, ◌∙◌, subst}
use Rattle.native_set.specs.Table.{constraint_of}
use Rattle.rewrite_model.specs.Pattern.{calls}
use Rattle.rewrite_model.specs.MatchPart.{ask}
use Rattle.rewrite_model.specs.Expanding.{ask_native}
use Rattle.pdll_expand.specs.View.{meant_of}
use Rattle.pdll_expand.specs.Scenes.{Does, Gave}
use Rattle.pdll_expand.proofs.Steps.{gave}
use Rattle.pdll_expand.proofs.Bodies.{same_kinds, same_terms}
use Rattle.pdll_expand.proofs.calls.call_native.Goals as goal

pub returns-in-None : goal.returns-in-None
returns-in-None c =
    let xs = c.args.arguments.now in
    let ys = map meant_of xs in
    let old = c.args.scene.now in
    let e = ap (constraint_of c.args.name.now) (same_kinds xs ∙ (sym c.in_ok-kinds.ensures ∙ sym c.as_slice.ensures)) ∙ (sym c.constraint.ensures ∙ c.in-None.is) in
    subst (λ o. Gave (λ u. u) (ask_native o ys) old tt old) (sym e) (gave (λ u. u) tt old)

pub returns : goal.returns
returns c =
    let xs = c.args.arguments.now in
    let ys = map meant_of xs in
    let old = c.args.scene.now in
    let new = c.ask.new.self in
    let e = ap (constraint_of c.args.name.now) (same_kinds xs ∙ (sym c.in_ok-kinds.ensures ∙ sym c.as_slice.ensures)) ∙ (sym c.constraint.ensures ∙ c.in-Some.is) in
    let asked = subst (λ zs. Does (λ u. u) (ask (calls c.in-Some.native zs)) old c.ask.result new) (same_terms xs c.in_ok-terms-in-Some.field-0 c.in_ok-terms-in-Some.ensures) c.ask.ensures in
    subst (λ o. Does (λ u. u) (ask_native o ys) old c.ask.result new) (sym e) asked
