use Rattle.std.proofs.Common.{subst}
use Rattle.native_set.specs.declared.native.Kind.TheVariants.{Ty}
use Rattle.rewrite_model.specs.Pattern.{is_type}
use Rattle.rewrite_model.specs.Doing.{pure, ◌>>◌}
use Rattle.rewrite_model.specs.MatchPart.{new_number, number_of, ask}
use Rattle.pdll_expand.specs.View.{expr_of, meant_of}
use Rattle.pdll_expand.specs.Scenes.{Gave}
use Rattle.pdll_expand.proofs.Steps.{gave, then_gave}
use Rattle.pdll_expand.proofs.scene.Scene.new_type.Goals as goal

pub returns : goal.returns
returns c =
    let x = c.in_ok-x.x in
    let v = c.args.ty in
    let mid = c.new_number.new.self in
    let new = c.ask.new.self in
    let asked = subst (λ n. Gave (λ u. u) (ask (is_type n v)) mid c.in_ok-ask.field-0 new) c.number.ensures c.in_ok-ask.ensures in
    then_gave meant_of meant_of (new_number c.args.at Ty) (λ y. ask (is_type (number_of y.is) v) >> pure y) c.args.self.now mid new x x c.in_ok-x.ensures
    (then_gave (λ u. u) meant_of (ask (is_type (number_of (expr_of x.is)) v)) (λ _. pure (meant_of x)) mid new new c.in_ok-ask.field-0 x asked (gave meant_of x new))
