-- The grammar of expressions, refs and statements (MLIR's document "PDLL - PDL Language"): which tokens spell which tree.
-- Each relation says: from the first place up to the second one stands this, where at most so many brackets may be open.
use Rattle.std.specs.Prelude.{◌≡◌, ◌≢◌, ℕ, true, List, [], ◌∷◌, Option, Some, None, ◌⊎◌}
use Rattle.pdll_syntax.specs.declared.stmt.Values.{Values}
use Rattle.pdll_syntax.specs.declared.stmt.Values.TheVariants as values
use Rattle.pdll_syntax.specs.ExprTree.{Expr, expr, ExprForm, name_expr, call_expr, declare_expr, attr_expr, type_expr, op_expr, member_expr, OpExpr, operation, Entry, entry, Ref, ref, RefForm, attr_ref, op_ref, type_ref, type_range_ref, value_ref, value_range_ref, named_ref, Exprs, no_exprs, expr_then, Entries, no_entries, entry_then, Refs, no_refs, ref_then, MaybeExpr, no_expr, some_expr, MaybeExprs, left_out, written, exprs, refs, maybe_expr}
use Rattle.pdll_syntax.specs.StmtTree.{Stmt, stmt, StmtForm, let_stmt, erase_stmt, return_stmt, replace_stmt, rewrite_stmt, plain_stmt, Stmts, no_stmts, stmt_then}
use Rattle.pdll_parser.specs.declared.terminal.Terminal.TheVariants as t
use Rattle.pdll_parser.specs.Terminals.{begins_literal}
use Rattle.pdll_parser.specs.Place.{Place, terminal, start}
use Rattle.pdll_parser.specs.Tokens.{Tok, IsName, IsWord, IsStringFor, IsDeclaredName, IsLiteral, IsIndex, IsDottedName, InBrackets}

-- a name that is used; `attr`, `op` and `type` are none where `<` follows
pub record IsUse (s : Place) (name : List ℕ) (r : Place) : Type 0 where
  pub is_name : IsName s name r
  pub no_angle : begins_literal (terminal s) ≡ true → terminal r ≢ t.Less

-- a word, or a string that stands for the name
abbrev pub IsEntryName : Place → List ℕ → Place → Type 0
IsEntryName s name r = IsWord s name r ⊎ IsStringFor s name r

-- the name of an operation in angles, where it is written
abbrev pub IsMaybeOperationName : ℕ → Place → Option (List ℕ) → Place → Type 0
IsMaybeOperationName d s None r = s ≡ r
IsMaybeOperationName d s (Some name) r = InBrackets t.Less t.Greater (λ e u v. IsDottedName u name v) d s r

abbrev mutual
  pub IsExpr : ℕ → Place → Expr → Place → Type 0
  IsExpr d s (expr at form) r = (at ≡ start s) × IsExprForm d s form r

  pub IsExprForm : ℕ → Place → ExprForm → Place → Type 0
  IsExprForm d s (name_expr name) r = IsUse s name r
  IsExprForm d s (call_expr name xs) r = (s1 : Place) × IsName s name s1 × InBrackets t.LeftParen t.RightParen (λ e u v. IsExprs e u xs v) d s1 r
  IsExprForm d s (declare_expr name rs) r = (s1 s2 : Place) × IsName s name s1 × Tok t.Colon s1 s2 × IsRefs d s2 rs r
  IsExprForm d s (attr_expr literal) r = (s1 : Place) × Tok t.AttrName s s1 × InBrackets t.Less t.Greater (λ e u v. IsLiteral u literal v) d s1 r
  IsExprForm d s (type_expr literal) r = (s1 : Place) × Tok t.TypeName s s1 × InBrackets t.Less t.Greater (λ e u v. IsLiteral u literal v) d s1 r
  IsExprForm d s (op_expr op) r = (s1 : Place) × Tok t.OpName s s1 × IsOperation d s1 op r
  IsExprForm d s (member_expr x k) r = (s1 s2 : Place) × IsExpr d s x s1 × Tok t.Dot s1 s2 × IsIndex s2 k r

  -- what stands behind the word `op`
  pub IsOperation : ℕ → Place → OpExpr → Place → Type 0
  IsOperation d s (operation name operands es types) r =
      (s1 s2 s3 : Place) × InBrackets t.Less t.Greater (λ e u v. IsDottedName u name v) d s s1
      × AreMaybeOperands d s1 operands s2 × AreMaybeEntries d s2 es s3 × AreMaybeTypes d s3 types r

  pub AreMaybeOperands : ℕ → Place → MaybeExprs → Place → Type 0
  AreMaybeOperands d s left_out r = s ≡ r
  AreMaybeOperands d s (written xs) r = InBrackets t.LeftParen t.RightParen (λ e u v. IsExprs e u xs v) d s r

  pub AreMaybeTypes : ℕ → Place → MaybeExprs → Place → Type 0
  AreMaybeTypes d s left_out r = s ≡ r
  AreMaybeTypes d s (written xs) r = (s1 : Place) × Tok t.Arrow s s1 × InBrackets t.LeftParen t.RightParen (λ e u v. IsExprs e u xs v) d s1 r

  -- entries in braces; where there are none, the braces may be left out
  pub AreMaybeEntries : ℕ → Place → Entries → Place → Type 0
  AreMaybeEntries d s no_entries r = (s ≡ r) ⊎ InBrackets t.LeftBrace t.RightBrace (λ e u v. u ≡ v) d s r
  AreMaybeEntries d s (entry_then x xs) r =
      InBrackets t.LeftBrace t.RightBrace (λ e u v. (u1 : Place) × IsEntry e u x u1 × AreMoreEntries e u1 xs v) d s r

  pub AreMoreEntries : ℕ → Place → Entries → Place → Type 0
  AreMoreEntries d s no_entries r = s ≡ r
  AreMoreEntries d s (entry_then x xs) r = (s1 s2 : Place) × Tok t.Comma s s1 × IsEntry d s1 x s2 × AreMoreEntries d s2 xs r

  pub IsEntry : ℕ → Place → Entry → Place → Type 0
  IsEntry d s (entry at name value) r = (s1 : Place) × (at ≡ start s) × IsEntryName s name s1 × IsMaybeValue d s1 value r

  -- `=` and an expression, where they are written
  pub IsMaybeValue : ℕ → Place → MaybeExpr → Place → Type 0
  IsMaybeValue d s no_expr r = s ≡ r
  IsMaybeValue d s (some_expr x) r = (s1 : Place) × Tok t.Equal s s1 × IsExpr d s1 x r

  -- zero or more with commas between
  pub IsExprs : ℕ → Place → Exprs → Place → Type 0
  IsExprs d s no_exprs r = s ≡ r
  IsExprs d s (expr_then x xs) r = (s1 : Place) × IsExpr d s x s1 × AreMoreExprs d s1 xs r

  pub AreMoreExprs : ℕ → Place → Exprs → Place → Type 0
  AreMoreExprs d s no_exprs r = s ≡ r
  AreMoreExprs d s (expr_then x xs) r = (s1 s2 : Place) × Tok t.Comma s s1 × IsExpr d s1 x s2 × AreMoreExprs d s2 xs r

  -- one ref, or one or more in square brackets
  pub IsRefs : ℕ → Place → Refs → Place → Type 0
  IsRefs d s no_refs r = ⊥
  IsRefs d s (ref_then x xs) r =
      (IsRef d s x r × (xs ≡ no_refs))
      ⊎ InBrackets t.LeftBracket t.RightBracket (λ e u v. (u1 : Place) × IsRef e u x u1 × AreMoreRefs e u1 xs v) d s r

  pub AreMoreRefs : ℕ → Place → Refs → Place → Type 0
  AreMoreRefs d s no_refs r = s ≡ r
  AreMoreRefs d s (ref_then x xs) r = (s1 s2 : Place) × Tok t.Comma s s1 × IsRef d s1 x s2 × AreMoreRefs d s2 xs r

  -- a kind, or the name of a constraint
  pub IsRef : ℕ → Place → Ref → Place → Type 0
  IsRef d s (ref at form) r = (at ≡ start s) × IsRefForm d s form r

  pub IsRefForm : ℕ → Place → RefForm → Place → Type 0
  IsRefForm d s (attr_ref of) r = (s1 : Place) × Tok t.Attr s s1 × IsMaybeOf d s1 of r
  IsRefForm d s (op_ref name) r = (s1 : Place) × Tok t.Op s s1 × IsMaybeOperationName d s1 name r
  IsRefForm d s type_ref r = Tok t.Type s r
  IsRefForm d s type_range_ref r = Tok t.TypeRange s r
  IsRefForm d s (value_ref of) r = (s1 : Place) × Tok t.Value s s1 × IsMaybeOf d s1 of r
  IsRefForm d s (value_range_ref of) r = (s1 : Place) × Tok t.ValueRange s s1 × IsMaybeOf d s1 of r
  IsRefForm d s (named_ref name) r = IsName s name r

  -- an expression in angles, where it is written
  pub IsMaybeOf : ℕ → Place → MaybeExpr → Place → Type 0
  IsMaybeOf d s no_expr r = s ≡ r
  IsMaybeOf d s (some_expr x) r = InBrackets t.Less t.Greater (λ e u v. IsExpr e u x v) d s r

-- ---- statements

-- `:` and refs, where they are written
abbrev pub AreMaybeRefs : ℕ → Place → List Ref → Place → Type 0
AreMaybeRefs d s [] r = s ≡ r
AreMaybeRefs d s (x ∷ xs) r = (s1 : Place) × Tok t.Colon s s1 × IsRefs d s1 (refs (x ∷ xs)) r

-- an expression, or a list in parentheses
abbrev pub AreValues : ℕ → Place → Values → Place → Type 0
AreValues d s (values.One x) r = IsExpr d s x r
AreValues d s (values.Several xs) r = InBrackets t.LeftParen t.RightParen (λ e u v. IsExprs e u (exprs xs) v) d s r

abbrev mutual
  pub IsStmt : ℕ → Place → Stmt → Place → Type 0
  IsStmt d s (stmt at form) r = (s1 : Place) × (at ≡ start s) × IsStmtForm d s form s1 × Tok t.Semicolon s1 r

  pub IsStmtForm : ℕ → Place → StmtForm → Place → Type 0
  IsStmtForm d s (let_stmt name rs value) r =
      (s1 s2 s3 : Place) × Tok t.Let s s1 × IsDeclaredName s1 name s2 × AreMaybeRefs d s2 rs s3 × IsMaybeValue d s3 (maybe_expr value) r
  IsStmtForm d s (erase_stmt x) r = (s1 : Place) × Tok t.Erase s s1 × IsExpr d s1 x r
  IsStmtForm d s (return_stmt x) r = (s1 : Place) × Tok t.Return s s1 × IsExpr d s1 x r
  IsStmtForm d s (replace_stmt x new) r =
      (s1 s2 s3 : Place) × Tok t.Replace s s1 × IsExpr d s1 x s2 × Tok t.With s2 s3 × AreValues d s3 new r
  IsStmtForm d s (rewrite_stmt x body end) r =
      (s1 s2 s3 : Place) × Tok t.RewriteWith s s1 × IsExpr d s1 x s2 × Tok t.With s2 s3
      × InBrackets t.LeftBrace t.RightBrace (λ e u v. AreStmts e u body v × (end ≡ start v)) d s3 r
  IsStmtForm d s (plain_stmt x) r = IsExpr d s x r

  -- one after the other
  pub AreStmts : ℕ → Place → Stmts → Place → Type 0
  AreStmts d s no_stmts r = s ≡ r
  AreStmts d s (stmt_then x xs) r = (s1 : Place) × IsStmt d s x s1 × AreStmts d s1 xs r
