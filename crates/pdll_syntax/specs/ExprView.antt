-- What the forms of the program stand for, each part seen as what it stands for.
use Rattle.std.specs.Prelude.{◌≡◌, ℕ, List, [], ◌∷◌, ◌++◌, Option}
use Rattle.std.proofs.Common.{refl}
use Rattle.pdll_syntax.specs.ExprTree.{Expr, expr, ExprForm, OpExpr, operation, Entry, maybe_exprs, entries, name_expr, call_expr, declare_expr, attr_expr, type_expr, op_expr, member_expr, RefForm, attr_ref, op_ref, type_ref, type_range_ref, value_ref, value_range_ref, named_ref, exprs, refs, maybe_expr}
use Rattle.pdll_syntax.specs.declared.expr.ExprForm.{ExprForm as ExprNode}
use Rattle.pdll_syntax.specs.declared.expr.ExprForm.TheVariants as e
use Rattle.pdll_syntax.specs.declared.expr.RefForm.{RefForm as RefNode}
use Rattle.pdll_syntax.specs.declared.expr.RefForm.TheVariants as k

abbrev pub expr_form : ExprNode → ExprForm
expr_form (e.Name n) = name_expr n
expr_form (e.Call n xs) = call_expr n (exprs xs)
expr_form (e.Declare n rs) = declare_expr n (refs rs)
expr_form (e.AttrLit l) = attr_expr l
expr_form (e.TyLit l) = type_expr l
expr_form (e.Op o) = op_expr o

-- a form with numbers behind it, each after a `.`
abbrev pub with_members : ℕ → ExprForm → List ℕ → ExprForm
with_members at form [] = form
with_members at form (k ∷ ks) = with_members at (member_expr (expr at form) k) ks

pub with_one_more : (at : ℕ) (form : ExprForm) (ks : List ℕ) (k : ℕ) → with_members at form (ks ++ k ∷ []) ≡ member_expr (expr at (with_members at form ks)) k
with_one_more at form [] k = refl
with_one_more at form (j ∷ ks) k = with_one_more at (member_expr (expr at form) j) ks k

abbrev pub ref_form : RefNode → RefForm
ref_form (k.Attr x) = attr_ref (maybe_expr x)
ref_form (k.Op n) = op_ref n
ref_form k.Ty = type_ref
ref_form k.Tys = type_range_ref
ref_form (k.Value x) = value_ref (maybe_expr x)
ref_form (k.Values x) = value_range_ref (maybe_expr x)
ref_form (k.Named n) = named_ref n

abbrev pub op_of : List ℕ → Option (List Expr) → List Entry → Option (List Expr) → OpExpr
op_of n xs es ts = operation n (maybe_exprs xs) (entries es) (maybe_exprs ts)
