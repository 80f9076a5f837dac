-- Tests that tell whether two trees are the same.
use Rattle.std.specs.Prelude.{Bool, true, false, ◌&&◌, nat_eq, List, [], ◌∷◌, Option, Some, None}
use Rattle.std.specs.Str.{bytes_eq}
use Rattle.pdll_syntax.specs.declared.name.Literal.{Literal}
use Rattle.pdll_syntax.specs.declared.name.Name.{Name}
use Rattle.pdll_syntax.specs.declared.stmt.Values.{Values}
use Rattle.pdll_syntax.specs.declared.stmt.Values.TheVariants.{One, Several}
use Rattle.pdll_syntax.specs.declared.stmt.Body.{Body}
use Rattle.pdll_syntax.specs.declared.stmt.Body.TheVariants as body
use Rattle.pdll_syntax.specs.declared.stmt.Body.TheVariants.{Absent, Braces, Value}
use Rattle.pdll_syntax.specs.declared.stmt.Param.{Param}
use Rattle.pdll_syntax.specs.declared.file.Meta.{Meta}
use Rattle.pdll_syntax.specs.declared.file.MetaForm.{MetaForm}
use Rattle.pdll_syntax.specs.declared.file.MetaForm.TheVariants.{Benefit, Recursion}
use Rattle.pdll_syntax.specs.declared.file.PatternDecl.{PatternDecl}
use Rattle.pdll_syntax.specs.declared.file.CallDecl.{CallDecl}
use Rattle.pdll_syntax.specs.declared.file.Decl.{Decl}
use Rattle.pdll_syntax.specs.declared.file.Decl.TheVariants.{Pattern, Constraint, Rewrite}
use Rattle.pdll_syntax.specs.declared.file.PatFile.{PatFile}
use Rattle.pdll_syntax.specs.ExprTree.{Expr, expr, ExprForm, name_expr, call_expr, declare_expr, attr_expr, type_expr, op_expr, member_expr, OpExpr, operation, Entry, entry, Ref, ref, RefForm, attr_ref, op_ref, type_ref, type_range_ref, value_ref, value_range_ref, named_ref, Exprs, no_exprs, expr_then, exprs, Entries, no_entries, entry_then, Refs, no_refs, ref_then, refs, MaybeExpr, no_expr, some_expr, maybe_expr, MaybeExprs, left_out, written}
use Rattle.pdll_syntax.specs.StmtTree.{Stmt, stmt, StmtForm, let_stmt, erase_stmt, return_stmt, replace_stmt, rewrite_stmt, plain_stmt, Stmts, no_stmts, stmt_then, stmts}

abbrev pub option_eq : {A : Type 0} → (A → A → Bool) → Option A → Option A → Bool
option_eq test None None = true
option_eq test (Some x) (Some y) = test x y
option_eq test _ _ = false

abbrev pub literal_eq : Literal → Literal → Bool
literal_eq l k = nat_eq l.at k.at && bytes_eq l.bytes k.bytes

abbrev pub name_eq : Name → Name → Bool
name_eq n m = nat_eq n.at m.at && bytes_eq n.text m.text

abbrev mutual
  pub expr_eq : Expr → Expr → Bool
  expr_eq (expr at f) (expr to g) = nat_eq at to && expr_form_eq f g

  pub expr_form_eq : ExprForm → ExprForm → Bool
  expr_form_eq (name_expr n) (name_expr m) = bytes_eq n m
  expr_form_eq (call_expr n xs) (call_expr m ys) = bytes_eq n m && exprs_eq xs ys
  expr_form_eq (declare_expr n rs) (declare_expr m ss) = bytes_eq n m && refs_eq rs ss
  expr_form_eq (attr_expr l) (attr_expr k) = literal_eq l k
  expr_form_eq (type_expr l) (type_expr k) = literal_eq l k
  expr_form_eq (op_expr o) (op_expr q) = op_eq o q
  expr_form_eq (member_expr x k) (member_expr y l) = nat_eq k l && expr_eq x y
  expr_form_eq _ _ = false

  pub op_eq : OpExpr → OpExpr → Bool
  op_eq (operation n xs es ts) (operation m ys ds us) = bytes_eq n m && (maybe_exprs_eq xs ys && (entries_eq es ds && maybe_exprs_eq ts us))

  pub entry_eq : Entry → Entry → Bool
  entry_eq (entry at n x) (entry to m y) = nat_eq at to && (bytes_eq n m && maybe_expr_eq x y)

  pub ref_eq : Ref → Ref → Bool
  ref_eq (ref at f) (ref to g) = nat_eq at to && ref_form_eq f g

  pub ref_form_eq : RefForm → RefForm → Bool
  ref_form_eq (attr_ref x) (attr_ref y) = maybe_expr_eq x y
  ref_form_eq (op_ref n) (op_ref m) = option_eq bytes_eq n m
  ref_form_eq type_ref type_ref = true
  ref_form_eq type_range_ref type_range_ref = true
  ref_form_eq (value_ref x) (value_ref y) = maybe_expr_eq x y
  ref_form_eq (value_range_ref x) (value_range_ref y) = maybe_expr_eq x y
  ref_form_eq (named_ref n) (named_ref m) = bytes_eq n m
  ref_form_eq _ _ = false

  pub exprs_eq : Exprs → Exprs → Bool
  exprs_eq no_exprs no_exprs = true
  exprs_eq (expr_then x xs) (expr_then y ys) = expr_eq x y && exprs_eq xs ys
  exprs_eq _ _ = false

  pub entries_eq : Entries → Entries → Bool
  entries_eq no_entries no_entries = true
  entries_eq (entry_then x xs) (entry_then y ys) = entry_eq x y && entries_eq xs ys
  entries_eq _ _ = false

  pub refs_eq : Refs → Refs → Bool
  refs_eq no_refs no_refs = true
  refs_eq (ref_then x xs) (ref_then y ys) = ref_eq x y && refs_eq xs ys
  refs_eq _ _ = false

  pub maybe_expr_eq : MaybeExpr → MaybeExpr → Bool
  maybe_expr_eq no_expr no_expr = true
  maybe_expr_eq (some_expr x) (some_expr y) = expr_eq x y
  maybe_expr_eq _ _ = false

  pub maybe_exprs_eq : MaybeExprs → MaybeExprs → Bool
  maybe_exprs_eq left_out left_out = true
  maybe_exprs_eq (written xs) (written ys) = exprs_eq xs ys
  maybe_exprs_eq _ _ = false

abbrev pub values_eq : Values → Values → Bool
values_eq (One x) (One y) = expr_eq x y
values_eq (Several xs) (Several ys) = exprs_eq (exprs xs) (exprs ys)
values_eq _ _ = false

abbrev mutual
  pub stmt_eq : Stmt → Stmt → Bool
  stmt_eq (stmt at f) (stmt to g) = nat_eq at to && stmt_form_eq f g

  pub stmt_form_eq : StmtForm → StmtForm → Bool
  stmt_form_eq (let_stmt n rs x) (let_stmt m ss y) = name_eq n m && (refs_eq (refs rs) (refs ss) && maybe_expr_eq (maybe_expr x) (maybe_expr y))
  stmt_form_eq (erase_stmt x) (erase_stmt y) = expr_eq x y
  stmt_form_eq (return_stmt x) (return_stmt y) = expr_eq x y
  stmt_form_eq (replace_stmt x vs) (replace_stmt y ws) = expr_eq x y && values_eq vs ws
  stmt_form_eq (rewrite_stmt x ss end) (rewrite_stmt y ts close) = nat_eq end close && (expr_eq x y && stmts_eq ss ts)
  stmt_form_eq (plain_stmt x) (plain_stmt y) = expr_eq x y
  stmt_form_eq _ _ = false

  pub stmts_eq : Stmts → Stmts → Bool
  stmts_eq no_stmts no_stmts = true
  stmts_eq (stmt_then x xs) (stmt_then y ys) = stmt_eq x y && stmts_eq xs ys
  stmts_eq _ _ = false

-- ---- declarations

module _ {A : Type 0} (test : A → A → Bool) where
  abbrev pub list_eq : List A → List A → Bool
  list_eq [] [] = true
  list_eq (x ∷ xs) (y ∷ ys) = test x y && list_eq xs ys
  list_eq _ _ = false

abbrev pub body_eq : Body → Body → Bool
body_eq Absent Absent = true
body_eq (Braces ss end) (Braces ts close) = nat_eq end close && stmts_eq (stmts ss) (stmts ts)
body_eq (body.One s) (body.One t) = stmt_eq s t
body_eq (Value x) (Value y) = expr_eq x y
body_eq _ _ = false

abbrev pub param_eq : Param → Param → Bool
param_eq p q = name_eq p.name q.name && refs_eq (refs p.refs) (refs q.refs)

abbrev pub meta_form_eq : MetaForm → MetaForm → Bool
meta_form_eq (Benefit n) (Benefit m) = nat_eq n m
meta_form_eq Recursion Recursion = true
meta_form_eq _ _ = false

abbrev pub meta_eq : Meta → Meta → Bool
meta_eq m n = nat_eq m.at n.at && meta_form_eq m.form n.form

abbrev pub pattern_eq : PatternDecl → PatternDecl → Bool
pattern_eq p q = nat_eq p.at q.at && (option_eq name_eq p.name q.name && (list_eq meta_eq p.metas q.metas && body_eq p.body q.body))

abbrev pub call_eq : CallDecl → CallDecl → Bool
call_eq c d = nat_eq c.at d.at && (name_eq c.name d.name && (list_eq param_eq c.params d.params && (option_eq ref_eq c.gives d.gives && body_eq c.body d.body)))

abbrev pub decl_eq : Decl → Decl → Bool
decl_eq (Pattern p) (Pattern q) = pattern_eq p q
decl_eq (Constraint c) (Constraint d) = call_eq c d
decl_eq (Rewrite c) (Rewrite d) = call_eq c d
decl_eq _ _ = false

abbrev pub file_eq : PatFile → PatFile → Bool
file_eq f g = list_eq decl_eq f.decls g.decls
