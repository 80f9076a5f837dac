use Rattle.std.proofs.Common.{subst}
use Rattle.native_set.specs.declared.native.Kind.TheVariants.{Op}
use Rattle.rewrite_model.specs.Pattern.{has_name, has_parts}
use Rattle.rewrite_model.specs.Doing.{pure, ◌>>◌}
use Rattle.rewrite_model.specs.MatchPart.{new_number, number_of, ask}
use Rattle.pdll_expand.specs.View.{expr_of, meant_of, parts_of}
use Rattle.pdll_expand.specs.Scenes.{Gave}
use Rattle.pdll_expand.proofs.Steps.{gave, then_gave}
use Rattle.pdll_expand.proofs.expressions.new_operation.Goals as goal

pub returns : goal.returns
returns c =
    let x = c.in_ok-x.x in
    let n = c.args.name.now in
    let parts = parts_of c.args.parts in
    let old = c.args.scene.now in
    let one = c.new_number.new.self in
    let two = c.ask.new.self in
    let new = c.ask-2.new.self in
    let named = subst (λ m. Gave (λ u. u) (ask (has_name m n)) one c.in_ok-ask.field-0 two) c.number.ensures c.in_ok-ask.ensures in
    let parted = subst (λ m. Gave (λ u. u) (ask (has_parts m parts)) two c.in_ok-ask-2.field-0 new) c.number-2.ensures c.in_ok-ask-2.ensures in
    then_gave meant_of meant_of (new_number c.args.at Op) (λ y. ask (has_name (number_of y.is) n) >> (ask (has_parts (number_of y.is) parts) >> pure y)) old one new x x c.in_ok-x.ensures
    (then_gave (λ u. u) meant_of (ask (has_name (number_of (expr_of x.is)) n)) (λ _. ask (has_parts (number_of (expr_of x.is)) parts) >> pure (meant_of x)) one two new c.in_ok-ask.field-0 x named
    (then_gave (λ u. u) meant_of (ask (has_parts (number_of (expr_of x.is)) parts)) (λ _. pure (meant_of x)) two new new c.in_ok-ask-2.field-0 x parted (gave meant_of x new)))
