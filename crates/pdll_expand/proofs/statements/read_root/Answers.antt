use Rattle.std.proofs.Common.{subst, sym}
use Rattle.rewrite_model.specs.Doing.{pure}
use Rattle.rewrite_model.specs.MatchPart.{expression, number_of}
use Rattle.rewrite_model.specs.Expanding.{root_of}
use Rattle.pdll_expand.specs.View.{meant_of, expr_of}
use Rattle.pdll_expand.specs.Scenes.{Gave}
use Rattle.pdll_expand.specs.Table.{in_sight}
use Rattle.pdll_expand.proofs.Steps.{gave, then_gave}
use Rattle.pdll_expand.proofs.statements.read_root.Goals as goal

pub returns : goal.returns
returns c =
    let q = in_sight c.args.constraints in
    let e = c.args.x.now in
    let old = c.args.scene.now in
    let new = c.read_expr.new.scene in
    let x = c.in_ok-x.x in
    let n = number_of (expr_of x.is) in
    subst (λ m. Gave (λ k. k) (root_of q e) old m new) (sym c.number.ensures)
    (then_gave meant_of (λ k. k) (expression q e) (λ y. pure (number_of y.is)) old new new x n c.in_ok-x.ensures (gave (λ k. k) n new))
