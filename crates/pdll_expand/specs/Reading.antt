-- The parts of reading a match that functions of the program have for their own.
use Rattle.std.specs.Prelude.{ℕ, List, [], ◌∷◌, map}
use Rattle.mlir_tree.specs.Tree.{unit}
use Rattle.pdll_syntax.specs.ExprTree.{Expr as Syntax, OpExpr, operation, MaybeExpr, no_expr, some_expr, Exprs}
use Rattle.pdll_syntax.specs.StmtTree.{Stmt, StmtForm, let_stmt, plain_stmt}
use Rattle.pdll_syntax.specs.declared.stmt.Param.{Param}
use Rattle.pdll_syntax.specs.declared.file.CallDecl.{CallDecl}
use Rattle.native_set.specs.declared.native.Kind.{Kind}
use Rattle.native_set.specs.declared.native.Kind.TheVariants as kind
use Rattle.rewrite_model.specs.Pattern.{Parts, Expr, result, has_name, has_parts}
use Rattle.rewrite_model.specs.Doing.{Doing, ◌>>=◌, ◌>>◌, pure, for_each}
use Rattle.rewrite_model.specs.Names.{Meant, named_together}
use Rattle.rewrite_model.specs.MatchPart.{Scene, Constrains, new_number, new_variable, mention, ask, number_of, as_operand, a_literal_attr, see_name, kind_of_refs, let_value, plain, expression, expressions, operands_at, entries_of, types_at, statement}
use Rattle.rewrite_model.specs.Expanding.{param_names, within, call_params, body_asks}

-- results of results, by the numbers behind an operation
abbrev pub members_read : List ℕ → Meant Expr → Doing Scene (Meant Expr)
members_read [] x = pure x
members_read (k ∷ ks) x = mention kind.Value (result (number_of x.is) k) >>= members_read ks

-- an operation whose parts are read
abbrev pub operation_read : List ℕ → ℕ → Parts Expr → Doing Scene (Meant Expr)
operation_read n at parts = do
  x ← new_number at kind.Op
  ask (has_name (number_of x.is) n)
  ask (has_parts (number_of x.is) parts)
  pure x

abbrev pub left_out_read : Kind → ℕ → Doing Scene (List Expr)
left_out_read k at = do
  x ← new_variable at k
  pure (x.is ∷ [])

module _ (constraint : List ℕ → Constrains) where
  abbrev pub parts_read : OpExpr → ℕ → Doing Scene (Parts Expr)
  parts_read (operation n os es ts) at = do
    operands ← operands_at constraint os at
    entries ← entries_of constraint es
    types ← types_at constraint ts at
    pure (record { operands = operands; entries = entries; types = types })

  abbrev pub operand_read : Syntax → Doing Scene Expr
  operand_read e = do
    x ← expression constraint e
    y ← as_operand x
    pure y.is

  abbrev pub type_list : Exprs → Doing Scene (List Expr)
  type_list es = do
    xs ← expressions constraint es
    pure (map (λ x. x.is) xs)

  abbrev pub value_read : MaybeExpr → ℕ → Doing Scene (Meant Expr)
  value_read no_expr at = a_literal_attr at unit
  value_read (some_expr e) at = expression constraint e

  abbrev pub alone_read : Syntax → Doing Scene (Unit {0})
  alone_read e = expression constraint e >> pure tt

  abbrev pub statements : List Stmt → Doing Scene (Unit {0})
  statements ss = for_each (statement constraint) ss

  abbrev pub form_read : StmtForm → Doing Scene (Unit {0})
  form_read (let_stmt n rs value) = do
    x ← let_value constraint rs value n.at
    see_name n.text x
  form_read (plain_stmt e) = plain constraint e
  form_read s = pure tt

  abbrev pub param_read : Param → Doing Scene (Meant Expr)
  param_read p = do
    x ← new_variable p.name.at (kind_of_refs constraint p.refs).kind
    see_name p.name.text x
    pure x

  -- the constraints in the refs of the parameters, and then the body
  abbrev pub body_read : CallDecl → List (Meant Expr) → Doing Scene (Unit {0})
  body_read c xs = call_params constraint c.params xs >> body_asks constraint c.body

  -- the same, with only the parameters as names
  abbrev pub body_called : CallDecl → List (Meant Expr) → Doing Scene (Unit {0})
  body_called c xs = within (named_together (param_names c.params) xs) (body_read c xs)
