use Rattle.std.proofs.Common.{sym, ap, ◌∙◌, arith}
use Rattle.pdll_syntax.specs.ExprView.{expr_form}
use Rattle.pdll_types.specs.Sight.{kind_of, form_of}
use Rattle.pdll_types.proofs.Members.{kind_members}
use Rattle.pdll_types.proofs.uses.kind_of_expr.Goals as goal

pub returns-then-len-gt0 : goal.returns-then-len-gt0
returns-then-len-gt0 c =
    sym (kind_members c.args.table.now c.args.sight.now c.x.inside.at (expr_form c.x.inside.form) c.x.inside.members (omega arith))
    ∙ ap (λ x. kind_of c.args.table.now c.args.sight.now (form_of x)) c.x.view_is
