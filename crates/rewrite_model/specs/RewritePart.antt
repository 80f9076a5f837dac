-- The rewrite of a pattern, and bodies of rewrites, as actions in the order of evaluation (PDLL document, "Rewrites",
-- "erase Statement", "replace Statement"). What is written here of files that aren't accepted means nothing.
use Rattle.std.specs.Prelude.{ℕ, ◌+◌, List, [], ◌∷◌, ◌++◌, Option, Some, None}
use Rattle.mlir_tree.specs.Tree.{unit}
use Rattle.pdll_syntax.specs.ExprTree.{Expr as Syntax, expr, ExprForm, name_expr, call_expr, declare_expr, attr_expr, type_expr, op_expr, member_expr, OpExpr, operation, Entry, entry, Exprs, no_exprs, expr_then, Entries, no_entries, entry_then, MaybeExpr, no_expr, some_expr, MaybeExprs, left_out, written}
use Rattle.pdll_syntax.specs.StmtTree.{Stmt, stmt, StmtForm, let_stmt, erase_stmt, return_stmt, replace_stmt, plain_stmt}
use Rattle.pdll_syntax.specs.declared.stmt.Values.{Values}
use Rattle.pdll_syntax.specs.declared.stmt.Values.TheVariants.{One, Several}
use Rattle.native_set.specs.declared.native.Kind.{Kind}
use Rattle.native_set.specs.declared.native.Kind.TheVariants as kind
use Rattle.rewrite_model.specs.Pattern.{attr_literal, type_literal, Part, made, Making, new_operation, result_of, only_result_of, results_of, result_types_of, Action, makes, replaces, erases}
use Rattle.rewrite_model.specs.Doing.{Doing, ◌>>=◌, ◌>>◌, pure, change}
use Rattle.rewrite_model.specs.Names.{Meant, Names, meaning}
use Rattle.rewrite_model.specs.MatchPart.{meant, attr_spelled, type_spelled}

-- What was read of a rewrite: the names in sight, how many things it makes, and its actions.
pub record Script : Type 0 where
  pub names : Names Part
  pub count : ℕ
  pub actions : List Action

-- What a call of a rewrite gives, by the arguments that were evaluated for it.
abbrev pub Rewrites : Type 0
Rewrites = List ℕ → List (Meant Part) → Doing Script (Meant Part)

-- ---- the parts of a script

-- stands where there is nothing to give
abbrev pub no_part : Meant Part
no_part = meant kind.Attr (made 0)

abbrev pub act : Action → Doing Script (Unit {0})
act x = change (λ s. record s { actions = s.actions ++ x ∷ [] })

-- what is made here, of this kind
abbrev pub make : Kind → Making → Doing Script (Meant Part)
make k x = λ s. (meant k (made s.count), record s { count = s.count + 1; actions = s.actions ++ makes x ∷ [] })

abbrev pub see_part : List ℕ → Meant Part → Doing Script (Unit {0})
see_part n x = change (λ s. record s { names = (n, x) ∷ s.names })

abbrev pub look_up_part : List ℕ → Doing Script (Meant Part)
look_up_part n = λ s. (meaning s.names n no_part, s)

-- an operation among operands is its only result, and among replacements it is all its results
abbrev pub operand_part : Meant Part → Doing Script Part
operand_part x = by_kind x.kind x.is where
  by_kind : Kind → Part → Doing Script Part
  by_kind kind.Op p = do
    y ← make kind.Value (only_result_of p)
    pure y.is
  by_kind k p = pure p

abbrev pub replacement_part : Meant Part → Doing Script Part
replacement_part x = by_kind x.kind x.is where
  by_kind : Kind → Part → Doing Script Part
  by_kind kind.Op p = do
    y ← make kind.Values (results_of p)
    pure y.is
  by_kind k p = pure p

-- types that are left out are those of the operation that is replaced
abbrev pub replaced_types : Option Part → Doing Script (List Part)
replaced_types None = pure []
replaced_types (Some p) = do
  x ← make kind.Tys (result_types_of p)
  pure (x.is ∷ [])

module _ (rewrite : Rewrites) where
  abbrev mutual
    -- The operation, where there is one, is that of the `replace` directly before.
    pub evaluated : Syntax → Option Part → Doing Script (Meant Part)
    evaluated (expr at form) old = form_evaluated form old

    pub form_evaluated : ExprForm → Option Part → Doing Script (Meant Part)
    form_evaluated (name_expr n) old = look_up_part n
    form_evaluated (call_expr n es) old = do
      xs ← all_evaluated es
      rewrite n xs
    form_evaluated (declare_expr n rs) old = pure no_part
    form_evaluated (attr_expr l) old = make kind.Attr (attr_literal (attr_spelled l.bytes))
    form_evaluated (type_expr l) old = make kind.Ty (type_literal (type_spelled l.bytes))
    form_evaluated (op_expr o) old = operation_evaluated o old
    form_evaluated (member_expr e k) old = do
      x ← evaluated e old
      make kind.Value (result_of x.is k)

    pub operation_evaluated : OpExpr → Option Part → Doing Script (Meant Part)
    operation_evaluated (operation n os es ts) old = do
      operands ← operands_evaluated os
      entries ← entries_evaluated es
      types ← types_evaluated ts old
      make kind.Op (new_operation n (record { operands = operands; entries = entries; types = types }))

    -- operands that are left out are none
    pub operands_evaluated : MaybeExprs → Doing Script (List Part)
    operands_evaluated left_out = pure []
    operands_evaluated (written es) = operand_list es

    pub operand_list : Exprs → Doing Script (List Part)
    operand_list no_exprs = pure []
    operand_list (expr_then e es) = do
      x ← evaluated e None
      p ← operand_part x
      ps ← operand_list es
      pure (p ∷ ps)

    pub types_evaluated : MaybeExprs → Option Part → Doing Script (List Part)
    types_evaluated left_out old = replaced_types old
    types_evaluated (written es) old = type_list es

    pub type_list : Exprs → Doing Script (List Part)
    type_list no_exprs = pure []
    type_list (expr_then e es) = do
      x ← evaluated e None
      ps ← type_list es
      pure (x.is ∷ ps)

    pub all_evaluated : Exprs → Doing Script (List (Meant Part))
    all_evaluated no_exprs = pure []
    all_evaluated (expr_then e es) = do
      x ← evaluated e None
      xs ← all_evaluated es
      pure (x ∷ xs)

    pub entries_evaluated : Entries → Doing Script (List (List ℕ × Part))
    entries_evaluated no_entries = pure []
    entries_evaluated (entry_then e es) = do
      x ← entry_evaluated e
      xs ← entries_evaluated es
      pure (x ∷ xs)

    pub entry_evaluated : Entry → Doing Script (List ℕ × Part)
    entry_evaluated (entry at n value) = do
      x ← value_evaluated value
      pure (n, x)

    -- an entry without a value is unit
    pub value_evaluated : MaybeExpr → Doing Script Part
    value_evaluated no_expr = do
      x ← make kind.Attr (attr_literal unit)
      pure x.is
    value_evaluated (some_expr e) = do
      x ← evaluated e None
      pure x.is

  -- ---- statements

  abbrev pub replacement : Option Part → Syntax → Doing Script Part
  replacement old e = do
    x ← evaluated e old
    replacement_part x

  abbrev pub replacement_list : List Syntax → Doing Script (List Part)
  replacement_list [] = pure []
  replacement_list (e ∷ es) = do
    p ← replacement None e
    ps ← replacement_list es
    pure (p ∷ ps)

  abbrev pub replacements : Part → Values → Doing Script (List Part)
  replacements old (One e) = do
    p ← replacement (Some old) e
    pure (p ∷ [])
  replacements old (Several es) = replacement_list es

  abbrev pub replace_by : Part → Values → Doing Script (Unit {0})
  replace_by old values = do
    ps ← replacements old values
    act (replaces old ps)

  -- What a statement does. A returned expression is what it gives.
  abbrev pub form_done : StmtForm → Doing Script (Meant Part)
  form_done (let_stmt n rs (Some e)) = do
    x ← evaluated e None
    see_part n.text x
    pure no_part
  form_done (erase_stmt e) = do
    x ← evaluated e None
    act (erases x.is)
    pure no_part
  form_done (replace_stmt e values) = do
    x ← evaluated e None
    replace_by x.is values
    pure no_part
  form_done (return_stmt e) = evaluated e None
  form_done (plain_stmt e) = evaluated e None >> pure no_part
  form_done s = pure no_part

  abbrev pub done : Stmt → Doing Script (Meant Part)
  done (stmt at form) = form_done form

  -- the statements in order; what the last one gives is given
  abbrev pub all_done : List Stmt → Doing Script (Meant Part)
  all_done [] = pure no_part
  all_done (s ∷ []) = done s
  all_done (s ∷ ss) = done s >> all_done ss
