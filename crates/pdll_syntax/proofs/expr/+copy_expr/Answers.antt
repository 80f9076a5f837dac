use Rattle.std.proofs.Common.{ap, arith}
use Rattle.pdll_syntax.specs.ExprSize.{expr_size, expr_item, entry_item, ref_item}
use Rattle.pdll_syntax.specs.ExprFalls.{members_more}
use Rattle.pdll_syntax.specs.ExprView.{expr_form}
use Rattle.pdll_syntax.proofs.expr.+copy_expr.Goals as goal

pub copy_exprs-copy-requires : goal.copy_exprs-copy-requires
copy_exprs-copy-requires t c =
    (omega (arith, c.decreases, expr_item c.args.all.now c.loop-expr.expr-index c.expr-item.result (omega arith) c.expr-item.is), tt)

pub copy_entries-copy-requires : goal.copy_entries-copy-requires
copy_entries-copy-requires t c =
    (omega (arith, c.decreases, entry_item c.args.all.now c.loop-entry.entry-index c.entry-item.result (omega arith) c.entry-item.is), tt)

pub copy_refs-copy-requires : goal.copy_refs-copy-requires
copy_refs-copy-requires t c =
    (omega (arith, c.decreases, ref_item c.args.all.now c.loop-kind.kind-index c.kind-item.result (omega arith) c.kind-item.is), tt)

pub Expr::copy-copy-requires : goal.Expr::copy-copy-requires
Expr::copy-copy-requires t c =
    (omega (arith, c.decreases, ap expr_size c.self.view_is, members_more c.self.inside.at (expr_form c.self.inside.form) c.self.inside.members), tt)
