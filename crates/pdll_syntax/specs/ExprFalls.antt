-- Each part of an expression has fewer nodes than the expression.
use Rattle.std.specs.Prelude.{ℕ, ◌≤◌, ◌+◌, max, List, [], ◌∷◌, Option, Some, None}
use Rattle.std.proofs.Common.{arith}
use Rattle.pdll_syntax.specs.declared.expr.ExprForm.{ExprForm}
use Rattle.pdll_syntax.specs.declared.expr.ExprForm.TheVariants.{Name, Call, Declare, AttrLit, TyLit, Op}
use Rattle.pdll_syntax.specs.declared.expr.Entry.TheDeep.{deep-ExprForm, deep-OpExpr}
use Rattle.pdll_syntax.specs.ExprTree.{Expr, expr, Entry, member_expr}
use Rattle.pdll_syntax.specs.ExprTree.{ExprForm as ExprMeaning}
use Rattle.pdll_syntax.specs.ExprSize.{expr_form_size, op_size, most_exprs, most_entries, most_refs}
use Rattle.pdll_syntax.specs.ExprView.{expr_form, with_members, op_of}

pub form_falls : (f : ExprForm) → max (deep-ExprForm f) 0 ≤ expr_form_size (expr_form f) + 1
form_falls (Name n) = omega arith
form_falls (Call n xs) = omega (arith, most_exprs xs)
form_falls (Declare n rs) = omega (arith, most_refs rs)
form_falls (AttrLit l) = omega arith
form_falls (TyLit l) = omega arith
form_falls (Op o) = omega arith

-- a form has no more than the same form with numbers behind it
pub members_more : (at : ℕ) (f : ExprMeaning) (ks : List ℕ) → expr_form_size f ≤ expr_form_size (with_members at f ks)
members_more at f [] = omega arith
members_more at f (k ∷ ks) = omega (arith, members_more at (member_expr (expr at f) k) ks)

pub expr_falls : (at : ℕ) (f : ExprForm) (ks : List ℕ) → max (deep-ExprForm f) 0 ≤ expr_form_size (with_members at (expr_form f) ks) + 1
expr_falls at f ks = omega (arith, form_falls f, members_more at (expr_form f) ks)

pub op_falls : (n : List ℕ) (xs : Option (List Expr)) (es : List Entry) (ts : Option (List Expr)) → deep-OpExpr (record { name = n; operands = xs; entries = es; types = ts }) ≤ op_size (op_of n xs es ts)
op_falls n None es None = omega (arith, most_entries es)
op_falls n None es (Some ts) = omega (arith, most_entries es, most_exprs ts)
op_falls n (Some xs) es None = omega (arith, most_exprs xs, most_entries es)
op_falls n (Some xs) es (Some ts) = omega (arith, most_exprs xs, most_entries es, most_exprs ts)
