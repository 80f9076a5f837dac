-- How large a declaration is after expanding, counted without expanding.
use Rattle.std.specs.Prelude.{ℕ, ◌+◌, Bool, true, false, ◌||◌, nat_lt, List, [], ◌∷◌, Option, Some, None}
use Rattle.std.specs.Str.{bytes_eq}
use Rattle.pdll_syntax.specs.declared.stmt.Body.{Body}
use Rattle.pdll_syntax.specs.declared.stmt.Body.TheVariants as body
use Rattle.pdll_syntax.specs.declared.stmt.Param.{Param}
use Rattle.pdll_syntax.specs.declared.stmt.Values.{Values}
use Rattle.pdll_syntax.specs.declared.stmt.Values.TheVariants.{One, Several}
use Rattle.pdll_syntax.specs.declared.file.Decl.{Decl}
use Rattle.pdll_syntax.specs.declared.file.Decl.TheVariants as decl
use Rattle.pdll_syntax.specs.declared.file.CallDecl.{CallDecl}
use Rattle.pdll_syntax.specs.ExprTree.{Expr, expr, ExprForm, name_expr, call_expr, declare_expr, attr_expr, type_expr, op_expr, member_expr, OpExpr, operation, Entry, entry, Ref, ref, RefForm, attr_ref, op_ref, type_ref, type_range_ref, value_ref, value_range_ref, named_ref, Exprs, no_exprs, expr_then, Entries, no_entries, entry_then, Refs, no_refs, ref_then, MaybeExpr, no_expr, some_expr, MaybeExprs, left_out, written, exprs, refs}
use Rattle.pdll_syntax.specs.StmtTree.{Stmt, stmt, StmtForm, let_stmt, erase_stmt, return_stmt, replace_stmt, rewrite_stmt, plain_stmt, Stmts, no_stmts, stmt_then, stmts}

pub record Size : Type 0 where
  pub statements : ℕ
  pub operations : ℕ
  pub expressions : ℕ

abbrev pub nothing : Size
nothing = record { statements = 0; operations = 0; expressions = 0 }

infixl 10 ◌and◌
abbrev pub ◌and◌ : Size → Size → Size
x and y = record { statements = x.statements + y.statements; operations = x.operations + y.operations; expressions = x.expressions + y.expressions }

abbrev pub one_statement : Size
one_statement = record { statements = 1; operations = 0; expressions = 0 }

abbrev pub one_operation : Size
one_operation = record { statements = 0; operations = 1; expressions = 0 }

abbrev pub one_expression : Size
one_expression = record { statements = 0; operations = 0; expressions = 1 }

-- What the calls of a name add. In an accepted file only one of the two is declared.
pub record Called : Type 0 where
  pub constraint : List ℕ → Size
  pub rewrite : List ℕ → Size

module _ (called : Called) where
  abbrev mutual
    pub expr_size : Expr → Size
    expr_size (expr at form) = form_size form

    pub form_size : ExprForm → Size
    form_size (name_expr n) = one_expression
    form_size (call_expr n xs) = one_expression and exprs_size xs and called.constraint n and called.rewrite n
    form_size (declare_expr n rs) = one_expression and refs_size rs
    form_size (attr_expr l) = one_expression
    form_size (type_expr l) = one_expression
    form_size (op_expr o) = one_expression and one_operation and operation_size o
    form_size (member_expr e k) = one_expression and expr_size e

    pub operation_size : OpExpr → Size
    operation_size (operation n os es ts) = list_size os and entries_size es and list_size ts

    -- a left-out list is one expression
    pub list_size : MaybeExprs → Size
    list_size left_out = one_expression
    list_size (written xs) = exprs_size xs

    pub exprs_size : Exprs → Size
    exprs_size no_exprs = nothing
    exprs_size (expr_then x xs) = expr_size x and exprs_size xs

    pub entries_size : Entries → Size
    entries_size no_entries = nothing
    entries_size (entry_then e es) = entry_size e and entries_size es

    -- an entry without a value is one expression
    pub entry_size : Entry → Size
    entry_size (entry at n no_expr) = one_expression
    entry_size (entry at n (some_expr x)) = expr_size x

    pub refs_size : Refs → Size
    refs_size no_refs = nothing
    refs_size (ref_then r rs) = ref_size r and refs_size rs

    pub ref_size : Ref → Size
    ref_size (ref at form) = ref_form_size form

    -- a constraint among refs is a call
    pub ref_form_size : RefForm → Size
    ref_form_size (attr_ref t) = of_size t
    ref_form_size (op_ref n) = nothing
    ref_form_size type_ref = nothing
    ref_form_size type_range_ref = nothing
    ref_form_size (value_ref t) = of_size t
    ref_form_size (value_range_ref t) = of_size t
    ref_form_size (named_ref n) = called.constraint n

    pub of_size : MaybeExpr → Size
    of_size no_expr = nothing
    of_size (some_expr x) = expr_size x

  abbrev pub values_size : Values → Size
  values_size (One x) = expr_size x
  values_size (Several xs) = exprs_size (exprs xs)

  abbrev pub value_size : Option Expr → Size
  value_size None = nothing
  value_size (Some x) = expr_size x

  abbrev mutual
    pub stmt_size : Stmt → Size
    stmt_size (stmt at form) = one_statement and stmt_form_size form

    pub stmt_form_size : StmtForm → Size
    stmt_form_size (let_stmt n rs x) = refs_size (refs rs) and value_size x
    stmt_form_size (erase_stmt x) = expr_size x
    stmt_form_size (return_stmt x) = expr_size x
    stmt_form_size (replace_stmt x vs) = expr_size x and values_size vs
    stmt_form_size (rewrite_stmt x ss end) = expr_size x and stmts_size ss
    stmt_form_size (plain_stmt x) = expr_size x

    pub stmts_size : Stmts → Size
    stmts_size no_stmts = nothing
    stmts_size (stmt_then s ss) = stmt_size s and stmts_size ss

  -- a body by `=>` is one statement
  abbrev pub body_size : Body → Size
  body_size body.Absent = nothing
  body_size (body.Braces ss end) = stmts_size (stmts ss)
  body_size (body.One s) = stmt_size s
  body_size (body.Value x) = one_statement and expr_size x

  abbrev pub params_size : List Param → Size
  params_size [] = nothing
  params_size (p ∷ ps) = refs_size (refs p.refs) and params_size ps

  abbrev pub result_size : Option Ref → Size
  result_size None = nothing
  result_size (Some r) = ref_size r

  -- what stands for a call: the constraints of the parameters, and the body
  abbrev pub call_size : CallDecl → Size
  call_size c = params_size c.params and body_size c.body

  abbrev pub decl_size : Decl → Size
  decl_size (decl.Pattern p) = body_size p.body
  decl_size (decl.Constraint c) = call_size c and result_size c.gives
  decl_size (decl.Rewrite c) = call_size c and result_size c.gives

abbrev pub size_if : Bool → Size → Size → Size
size_if true here more = here
size_if false here more = more

abbrev pub with_constraint : CallDecl → Called → Called
with_constraint c earlier = record earlier { constraint = λ n. size_if (bytes_eq c.name.text n) (call_size earlier c) (earlier.constraint n) }

abbrev pub with_rewrite : CallDecl → Called → Called
with_rewrite c earlier = record earlier { rewrite = λ n. size_if (bytes_eq c.name.text n) (call_size earlier c) (earlier.rewrite n) }

-- What calls add, by the declarations before them, the last one first.
abbrev pub sizes : List Decl → Called
sizes [] = record { constraint = λ n. nothing; rewrite = λ n. nothing }
sizes ((decl.Pattern p) ∷ earlier) = sizes earlier
sizes ((decl.Constraint c) ∷ earlier) = with_constraint c (sizes earlier)
sizes ((decl.Rewrite c) ∷ earlier) = with_rewrite c (sizes earlier)

-- The size of a declaration after expanding, by the declarations before it, the last one first.
unfoldable pub expanded_size : List Decl → Decl → Size
expanded_size earlier d = decl_size (sizes earlier) d

-- ---- limits

-- the expressions of all patterns among these declarations
abbrev pub pattern_expressions : List Decl → ℕ
pattern_expressions [] = 0
pattern_expressions ((decl.Pattern p) ∷ earlier) = (expanded_size earlier (decl.Pattern p)).expressions + pattern_expressions earlier
pattern_expressions (d ∷ earlier) = pattern_expressions earlier

abbrev pub is_long : Size → Bool
is_long s = nat_lt 4096 s.statements || nat_lt 65535 s.expressions

-- Whether a declaration is too large after expanding: more than 4,096 statements or 65,535 expressions, or a pattern of more
-- than 256 operations, or with which all patterns have more than 1,000,000 expressions.
unfoldable pub is_too_large : List Decl → Decl → Bool
is_too_large earlier (decl.Pattern p) =
    is_long (expanded_size earlier (decl.Pattern p))
    || (nat_lt 256 (expanded_size earlier (decl.Pattern p)).operations || nat_lt 1000000 (pattern_expressions (decl.Pattern p ∷ earlier)))
is_too_large earlier d = is_long (expanded_size earlier d)
