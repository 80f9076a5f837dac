use Rattle.std.proofs.Common.{◌≡◌, take}
use Rattle.pdll_syntax.specs.ExprTree.{exprs, entries, refs, maybe_expr, maybe_exprs}
use Rattle.pdll_syntax.specs.ExprSize.{expr_size, expr_form_size, op_size, entry_size, ref_size, ref_form_size, exprs_size, entries_size, refs_size, maybe_expr_size, maybe_exprs_size}
use Rattle.pdll_syntax.specs.ExprView.{expr_form, ref_form}
use Rattle.pdll_syntax.proofs.expr.+copy_expr.Given as goal

abbrev pub invariant-copy_exprs-loop-expr : goal.invariant-copy_exprs-loop-expr
invariant-copy_exprs-loop-expr l = l.copied ≡ take l.expr-index l.all

abbrev pub invariant-copy_entries-loop-entry : goal.invariant-copy_entries-loop-entry
invariant-copy_entries-loop-entry l = l.copied ≡ take l.entry-index l.all

abbrev pub invariant-copy_refs-loop-kind : goal.invariant-copy_refs-loop-kind
invariant-copy_refs-loop-kind l = l.copied ≡ take l.kind-index l.all

abbrev pub decreases-Expr::copy : goal.decreases-Expr::copy
decreases-Expr::copy l = expr_size l.self.now

abbrev pub decreases-ExprForm::copy : goal.decreases-ExprForm::copy
decreases-ExprForm::copy l = expr_form_size (expr_form l.self.now)

abbrev pub decreases-OpExpr::copy : goal.decreases-OpExpr::copy
decreases-OpExpr::copy l = op_size l.self.now

abbrev pub decreases-Entry::copy : goal.decreases-Entry::copy
decreases-Entry::copy l = entry_size l.self.now

abbrev pub decreases-Ref::copy : goal.decreases-Ref::copy
decreases-Ref::copy l = ref_size l.self.now

abbrev pub decreases-RefForm::copy : goal.decreases-RefForm::copy
decreases-RefForm::copy l = ref_form_size (ref_form l.self.now)

abbrev pub decreases-copy_exprs : goal.decreases-copy_exprs
decreases-copy_exprs l = exprs_size (exprs l.all.now)

abbrev pub decreases-copy_entries : goal.decreases-copy_entries
decreases-copy_entries l = entries_size (entries l.all.now)

abbrev pub decreases-copy_refs : goal.decreases-copy_refs
decreases-copy_refs l = refs_size (refs l.all.now)

abbrev pub decreases-copy_maybe : goal.decreases-copy_maybe
decreases-copy_maybe l = maybe_expr_size (maybe_expr l.expr.now)

abbrev pub decreases-copy_written : goal.decreases-copy_written
decreases-copy_written l = maybe_exprs_size (maybe_exprs l.all.now)
