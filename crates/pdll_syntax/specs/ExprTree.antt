-- Expressions as contracts see them: plain data. A list inside a type that leads back to itself is a data type of its own.
use Rattle.std.specs.Prelude.{◌≡◌, ℕ, List, [], ◌∷◌, Option, Some, None}
use Rattle.std.proofs.Common.{refl, ap}
use Rattle.pdll_syntax.specs.declared.name.Literal.{Literal}

mutual
  -- an expression with the place of its first token
  pub data Expr : Type 0 where
    expr : ℕ → ExprForm → Expr

  pub data ExprForm : Type 0 where
    name_expr : List ℕ → ExprForm
    call_expr : List ℕ → Exprs → ExprForm
    declare_expr : List ℕ → Refs → ExprForm
    attr_expr : Literal → ExprForm
    type_expr : Literal → ExprForm
    op_expr : OpExpr → ExprForm
    member_expr : Expr → ℕ → ExprForm

  -- the name, the operands, the entries and the result types
  pub data OpExpr : Type 0 where
    operation : List ℕ → MaybeExprs → Entries → MaybeExprs → OpExpr

  -- the place of the name, the name and the value
  pub data Entry : Type 0 where
    entry : ℕ → List ℕ → MaybeExpr → Entry

  -- a kind or a constraint with the place of its first token
  pub data Ref : Type 0 where
    ref : ℕ → RefForm → Ref

  pub data RefForm : Type 0 where
    attr_ref : MaybeExpr → RefForm
    op_ref : Option (List ℕ) → RefForm
    type_ref : RefForm
    type_range_ref : RefForm
    value_ref : MaybeExpr → RefForm
    value_range_ref : MaybeExpr → RefForm
    named_ref : List ℕ → RefForm

  pub data Exprs : Type 0 where
    no_exprs : Exprs
    expr_then : Expr → Exprs → Exprs

  pub data Entries : Type 0 where
    no_entries : Entries
    entry_then : Entry → Entries → Entries

  pub data Refs : Type 0 where
    no_refs : Refs
    ref_then : Ref → Refs → Refs

  pub data MaybeExpr : Type 0 where
    no_expr : MaybeExpr
    some_expr : Expr → MaybeExpr

  -- a list that is left out, or one that is written
  pub data MaybeExprs : Type 0 where
    left_out : MaybeExprs
    written : Exprs → MaybeExprs

-- ---- what lists and options stand for inside a tree, and the way back

abbrev pub exprs : List Expr → Exprs
exprs [] = no_exprs
exprs (x ∷ xs) = expr_then x (exprs xs)

abbrev pub entries : List Entry → Entries
entries [] = no_entries
entries (e ∷ es) = entry_then e (entries es)

abbrev pub refs : List Ref → Refs
refs [] = no_refs
refs (r ∷ rs) = ref_then r (refs rs)

abbrev pub maybe_expr : Option Expr → MaybeExpr
maybe_expr None = no_expr
maybe_expr (Some x) = some_expr x

abbrev pub maybe_exprs : Option (List Expr) → MaybeExprs
maybe_exprs None = left_out
maybe_exprs (Some xs) = written (exprs xs)

abbrev pub expr_list : Exprs → List Expr
expr_list no_exprs = []
expr_list (expr_then x xs) = x ∷ expr_list xs

abbrev pub entry_list : Entries → List Entry
entry_list no_entries = []
entry_list (entry_then e es) = e ∷ entry_list es

abbrev pub ref_list : Refs → List Ref
ref_list no_refs = []
ref_list (ref_then r rs) = r ∷ ref_list rs

pub exprs_back : (xs : List Expr) → expr_list (exprs xs) ≡ xs
exprs_back [] = refl
exprs_back (x ∷ xs) = ap (λ ys. x ∷ ys) (exprs_back xs)

pub entries_back : (es : List Entry) → entry_list (entries es) ≡ es
entries_back [] = refl
entries_back (e ∷ es) = ap (λ ds. e ∷ ds) (entries_back es)

pub refs_back : (rs : List Ref) → ref_list (refs rs) ≡ rs
refs_back [] = refl
refs_back (r ∷ rs) = ap (λ ss. r ∷ ss) (refs_back rs)
