use Rattle.std.proofs.Common.{◌∷◌, [], map, ap, subst, sym, ◌++◌, ◌∙◌}
use Rattle.rewrite_model.specs.Doing.{pure}
use Rattle.rewrite_model.specs.MatchPart.{new_variable}
use Rattle.pdll_expand.specs.View.{expr_of, meant_of}
use Rattle.pdll_expand.specs.Scenes.{Gave}
use Rattle.pdll_expand.specs.Reading.{left_out_read}
use Rattle.pdll_expand.proofs.Steps.{gave, then_gave}
use Rattle.pdll_expand.proofs.expressions.left_out.Goals as goal

pub returns : goal.returns
returns c =
    let x = c.in_ok-x.x in
    let old = c.args.scene.now in
    let new = c.new_variable.new.self in
    let one = c.in_ok-push.ensures.ok ∙ ap (λ xs. xs ++ x.is ∷ []) c.new-found.ensures in
    let read = then_gave meant_of (map expr_of) (new_variable c.args.at c.args.kind) (λ y. pure (y.is ∷ [])) old new new x (x.is ∷ []) c.in_ok-x.ensures (gave (map expr_of) (x.is ∷ []) new) in
    subst (λ xs. Gave (map expr_of) (left_out_read c.args.kind c.args.at) old xs new) (sym one) read
