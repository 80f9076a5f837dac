-- How many nodes a statement has, counting each statement inside and each expression. A part has fewer than what holds it.
use Rattle.std.proofs.Common.{◌≡◌, ℕ, zero, suc, ◌+◌, ◌<◌, ◌≤◌, List, [], ◌∷◌, length, get_or, ap, arith}
use denote.Param.Weighed.{most}
use Rattle.pdll_syntax.specs.declared.stmt.Values.{Values}
use Rattle.pdll_syntax.specs.declared.stmt.Values.TheVariants.{One, Several}
use Rattle.pdll_syntax.specs.ExprTree.{exprs, refs, maybe_expr}
use Rattle.pdll_syntax.specs.ExprSize.{expr_size, exprs_size, refs_size, maybe_expr_size}
use Rattle.pdll_syntax.specs.StmtTree.{Stmt, stmt, StmtForm, let_stmt, erase_stmt, return_stmt, replace_stmt, rewrite_stmt, plain_stmt, Stmts, no_stmts, stmt_then, stmts}

abbrev pub values_size : Values → ℕ
values_size (One x) = expr_size x + 1
values_size (Several xs) = exprs_size (exprs xs) + 1

abbrev mutual
  pub stmt_size : Stmt → ℕ
  stmt_size (stmt at form) = stmt_form_size form + 1

  pub stmt_form_size : StmtForm → ℕ
  stmt_form_size (let_stmt n rs x) = refs_size (refs rs) + maybe_expr_size (maybe_expr x) + 1
  stmt_form_size (erase_stmt x) = expr_size x + 1
  stmt_form_size (return_stmt x) = expr_size x + 1
  stmt_form_size (replace_stmt x vs) = expr_size x + values_size vs + 1
  stmt_form_size (rewrite_stmt x ss end) = expr_size x + stmts_size ss + 1
  stmt_form_size (plain_stmt x) = expr_size x + 1

  pub stmts_size : Stmts → ℕ
  stmts_size no_stmts = 1
  stmts_size (stmt_then s ss) = stmt_size s + stmts_size ss + 1

pub stmt_at : (ss : List Stmt) (i : ℕ) (d : Stmt) → i < length ss → stmt_size (get_or ss i d) < stmts_size (stmts ss)
stmt_at [] i d h = absurd (omega arith)
stmt_at (s ∷ ss) zero d h = omega arith
stmt_at (s ∷ ss) (suc i) d h = omega (arith, stmt_at ss i d (omega arith))

-- an item has fewer than its list
pub stmt_item : (ss : List Stmt) (i : ℕ) (s : Stmt) → i < length ss → s ≡ get_or ss i s → stmt_size s < stmts_size (stmts ss)
stmt_item ss i s h is = omega (arith, ap stmt_size is, stmt_at ss i s h)

-- so does the largest item
pub most_stmts : (ss : List Stmt) → most (λ s. stmt_size s + 1) ss ≤ stmts_size (stmts ss)
most_stmts [] = omega arith
most_stmts (s ∷ ss) = omega (arith, most_stmts ss)
