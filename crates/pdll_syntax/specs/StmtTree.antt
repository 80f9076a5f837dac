-- Statements as contracts see them: plain data. The statements inside a statement are a data type of their own.
use Rattle.std.specs.Prelude.{◌≡◌, ℕ, List, [], ◌∷◌, Option}
use Rattle.std.proofs.Common.{refl, ap}
use Rattle.pdll_syntax.specs.declared.name.Name.{Name}
use Rattle.pdll_syntax.specs.declared.stmt.Values.{Values}
use Rattle.pdll_syntax.specs.ExprTree.{Expr, Ref}

mutual
  -- a statement with the place of its first token
  pub data Stmt : Type 0 where
    stmt : ℕ → StmtForm → Stmt

  pub data StmtForm : Type 0 where
    let_stmt : Name → List Ref → Option Expr → StmtForm
    erase_stmt : Expr → StmtForm
    return_stmt : Expr → StmtForm
    replace_stmt : Expr → Values → StmtForm
    rewrite_stmt : Expr → Stmts → ℕ → StmtForm
    plain_stmt : Expr → StmtForm

  pub data Stmts : Type 0 where
    no_stmts : Stmts
    stmt_then : Stmt → Stmts → Stmts

-- what a list stands for inside a statement, and the way back
abbrev pub stmts : List Stmt → Stmts
stmts [] = no_stmts
stmts (s ∷ ss) = stmt_then s (stmts ss)

abbrev pub stmt_list : Stmts → List Stmt
stmt_list no_stmts = []
stmt_list (stmt_then s ss) = s ∷ stmt_list ss

pub stmts_back : (ss : List Stmt) → stmt_list (stmts ss) ≡ ss
stmts_back [] = refl
stmts_back (s ∷ ss) = ap (λ ts. s ∷ ts) (stmts_back ss)
