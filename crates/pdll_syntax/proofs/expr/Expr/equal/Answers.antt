use Rattle.pdll_syntax.specs.Equal.{expr_eq}
use Rattle.pdll_syntax.proofs.Told.{told, expr_told, expr_itself}
use Rattle.pdll_syntax.proofs.expr.Expr.equal.Goals as goal

pub returns : goal.returns
returns c = told expr_eq expr_told expr_itself c.args.self.now c.args.other.now c.same_expr.result c.same_expr.ensures
