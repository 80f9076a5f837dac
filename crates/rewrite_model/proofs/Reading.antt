-- What each step of reading a match keeps, the whole reading keeps.
use Rattle.std.proofs.Common.{ℕ, List, [], ◌∷◌, length, Option, Some, None}
use Rattle.mlir_tree.specs.Tree.{Ty, Attr, unit}
use Rattle.pdll_syntax.specs.declared.stmt.Param.{Param}
use Rattle.pdll_syntax.specs.ExprTree.{Expr as Syntax, expr, ExprForm, name_expr, call_expr, declare_expr, attr_expr, type_expr, op_expr, member_expr, OpExpr, operation, Entry, entry, Ref, ref, RefForm, attr_ref, op_ref, type_ref, type_range_ref, value_ref, value_range_ref, named_ref, Exprs, no_exprs, expr_then, Entries, no_entries, entry_then, Refs, no_refs, ref_then, MaybeExpr, no_expr, some_expr, MaybeExprs, left_out, written, refs, ref_list}
use Rattle.pdll_syntax.specs.StmtTree.{Stmt, stmt, let_stmt, plain_stmt}
use Rattle.native_set.specs.declared.native.Kind.{Kind}
use Rattle.native_set.specs.declared.native.Kind.TheVariants as kind
use Rattle.rewrite_model.specs.Pattern.{Parts, Expr, the, result, only_result, stands, is_attr, is_type, has_name, has_parts}
use Rattle.rewrite_model.specs.Doing.{Doing, for_each}
use Rattle.rewrite_model.specs.Names.{Meant, Names, ref_name}
use Rattle.rewrite_model.specs.MatchPart.{Scene, Constrains, new_number, ask, ask_name, ask_type, number_of, new_variable, as_operand, call_named, call_refs, kind_of_refs, variable, expression, form_at, operation_at, operands_at, operand_list, types_at, expressions, entries_of, entry_of, given, type_of_refs, type_of_ref, type_of_form, plain, let_value, statement}
use Rattle.rewrite_model.specs.Expanding.{call_params}

-- a variable with its name and its type
abbrev pub with_variable : ℕ → Kind → Option (List ℕ) → Option Expr → Scene → Scene
with_variable at k n t s = (ask_type (the (length s.kinds)) t (ask_name (the (length s.kinds)) n (new_variable at k s).1).1).1

-- an operation with its name and its parts
abbrev pub with_operation : ℕ → List ℕ → Parts Expr → Scene → Scene
with_operation at n o s = (ask (has_parts (length s.kinds) o) (ask (has_name (length s.kinds) n) (new_number at kind.Op s).1).1).1

abbrev pub with_attr : ℕ → Attr → Scene → Scene
with_attr at v s = (ask (is_attr (length s.kinds) v) (new_number at kind.Attr s).1).1

abbrev pub with_type : ℕ → Ty → Scene → Scene
with_type at t s = (ask (is_type (length s.kinds) t) (new_number at kind.Ty s).1).1

-- The steps keep a property.
pub record Keeping (P : Scene → Type 0) : Type 0 where
  pub names : (ns : Names Expr) (s : Scene) → P s → P (record s { names = ns })
  pub mention : (e : Expr) (s : Scene) → P s → P (ask (stands e) s).1
  pub attr : (at : ℕ) (v : Attr) (s : Scene) → P s → P (with_attr at v s)
  pub type : (at : ℕ) (t : Ty) (s : Scene) → P s → P (with_type at t s)
  pub variable : (at : ℕ) (k : Kind) (n : Option (List ℕ)) (t : Option Expr) (s : Scene) → P s → P (with_variable at k n t s)
  pub operation : (at : ℕ) (n : List ℕ) (o : Parts Expr) (s : Scene) → P s → P (with_operation at n o s)

module _ (P : Scene → Type 0) (keep : Keeping P) where
  abbrev pub Keeps : {A : Type 0} → Doing Scene A → Type 0
  Keeps w = (s : Scene) → P s → P (w s).1

  operand : (x : Meant Expr) → Keeps (as_operand x)
  operand x s h = by x.kind where
    by : (k : Kind) → P (as_operand (record { kind = k; is = x.is }) s).1
    by kind.Op = keep.mention (only_result (number_of x.is)) s h
    by kind.Attr = h
    by kind.Ty = h
    by kind.Tys = h
    by kind.Value = h
    by kind.Values = h

  module _ (constraint : List ℕ → Constrains) (calls : (n : List ℕ) (xs : List (Meant Expr)) → Keeps ((constraint n).call xs)) where
    one_called : (x : Meant Expr) (n : Option (List ℕ)) → Keeps (call_named constraint x n)
    one_called x None s h = h
    one_called x (Some n) s h = calls n (x ∷ []) s h

    pub all_called : (rs : List Ref) (x : Meant Expr) → Keeps (call_refs constraint rs x)
    all_called [] x s h = h
    all_called (r ∷ rs) x s h = all_called rs x (call_named constraint x (ref_name r) s).1 (one_called x (ref_name r) s h)

    pub a_variable : (at : ℕ) (rs : List Ref) (t : Option Expr) → Keeps (variable constraint at rs t)
    a_variable at rs t s h =
        let w = kind_of_refs constraint rs in
        all_called rs (record { kind = w.kind; is = the (length s.kinds) }) (with_variable at w.kind w.name t s) (keep.variable at w.kind w.name t s h)

    mutual
      pub of_expr : (e : Syntax) → Keeps (expression constraint e)
      of_expr (expr at form) s h = of_form form at s h

      of_form : (form : ExprForm) (at : ℕ) → Keeps (form_at constraint form at)
      of_form (name_expr n) at s h = h
      of_form (call_expr n xs) at s h = h
      of_form (declare_expr n rs) at s h =
          let t = type_of_refs constraint rs s in
          let x = variable constraint at (ref_list rs) t.0 t.1 in
          keep.names ((n, x.0) ∷ x.1.names) x.1 (a_variable at (ref_list rs) t.0 t.1 (of_refs rs s h))
      of_form (attr_expr l) at s h = keep.attr at _ s h
      of_form (type_expr l) at s h = keep.type at _ s h
      of_form (op_expr o) at s h = of_operation o at s h
      of_form (member_expr e k) at s h = let x = expression constraint e s in keep.mention (result (number_of x.0.is) k) x.1 (of_expr e s h)

      of_operation : (o : OpExpr) (at : ℕ) → Keeps (operation_at constraint o at)
      of_operation (operation n os es ts) at s h =
          let x = operands_at constraint os at s in
          let y = entries_of constraint es x.1 in
          let z = types_at constraint ts at y.1 in
          keep.operation at n (record { operands = x.0; entries = y.0; types = z.0 }) z.1 (of_types ts at y.1 (of_entries es x.1 (of_operands os at s h)))

      pub of_operands : (os : MaybeExprs) (at : ℕ) → Keeps (operands_at constraint os at)
      of_operands left_out at s h = keep.variable at kind.Values None None s h
      of_operands (written es) at s h = of_list es s h

      of_list : (es : Exprs) → Keeps (operand_list constraint es)
      of_list no_exprs s h = h
      of_list (expr_then e es) s h =
          let x = expression constraint e s in
          let y = as_operand x.0 x.1 in
          of_list es y.1 (operand x.0 x.1 (of_expr e s h))

      pub of_types : (ts : MaybeExprs) (at : ℕ) → Keeps (types_at constraint ts at)
      of_types left_out at s h = keep.variable at kind.Tys None None s h
      of_types (written es) at s h = of_all es s h

      pub of_all : (es : Exprs) → Keeps (expressions constraint es)
      of_all no_exprs s h = h
      of_all (expr_then e es) s h = of_all es (expression constraint e s).1 (of_expr e s h)

      pub of_entries : (es : Entries) → Keeps (entries_of constraint es)
      of_entries no_entries s h = h
      of_entries (entry_then e es) s h = of_entries es (entry_of constraint e s).1 (of_entry e s h)

      of_entry : (e : Entry) → Keeps (entry_of constraint e)
      of_entry (entry at n no_expr) s h = keep.attr at unit s h
      of_entry (entry at n (some_expr e)) s h = of_expr e s h

      of_given : (e : MaybeExpr) → Keeps (given constraint e)
      of_given no_expr s h = h
      of_given (some_expr e) s h = of_expr e s h

      pub of_refs : (rs : Refs) → Keeps (type_of_refs constraint rs)
      of_refs no_refs s h = h
      of_refs (ref_then r rs) s h = of_ref r (type_of_refs constraint rs) (of_refs rs) s h

      of_ref : (r : Ref) (more : Doing Scene (Option Expr)) → Keeps more → Keeps (type_of_ref constraint r more)
      of_ref (ref at form) more k s h = of_ref_form form more k s h

      of_ref_form : (form : RefForm) (more : Doing Scene (Option Expr)) → Keeps more → Keeps (type_of_form constraint form more)
      of_ref_form (attr_ref t) more k s h = of_given t s h
      of_ref_form (op_ref n) more k s h = h
      of_ref_form type_ref more k s h = h
      of_ref_form type_range_ref more k s h = h
      of_ref_form (value_ref t) more k s h = of_given t s h
      of_ref_form (value_range_ref t) more k s h = of_given t s h
      of_ref_form (named_ref n) more k s h = k s h

    pub of_plain : (e : Syntax) → Keeps (plain constraint e)
    of_plain (expr at (call_expr n es)) s h = let x = expressions constraint es s in calls n x.0 x.1 (of_all es s h)
    of_plain e s h = of_expr e s h

    of_let : (rs : List Ref) (value : Option Syntax) (at : ℕ) → Keeps (let_value constraint rs value at)
    of_let rs None at s h = let t = type_of_refs constraint (refs rs) s in a_variable at rs t.0 t.1 (of_refs (refs rs) s h)
    of_let rs (Some e) at s h = let x = expression constraint e s in all_called rs x.0 x.1 (of_expr e s h)

    pub of_statement : (t : Stmt) → Keeps (statement constraint t)
    of_statement (stmt at (let_stmt n rs value)) s h =
        let x = let_value constraint rs value n.at s in
        keep.names ((n.text, x.0) ∷ x.1.names) x.1 (of_let rs value n.at s h)
    of_statement (stmt at (plain_stmt e)) s h = of_plain e s h
    of_statement t s h = h

    pub of_statements : (ss : List Stmt) → Keeps (for_each (statement constraint) ss)
    of_statements [] s h = h
    of_statements (t ∷ ss) s h = of_statements ss (statement constraint t s).1 (of_statement t s h)

    pub of_params : (ps : List Param) (xs : List (Meant Expr)) → Keeps (call_params constraint ps xs)
    of_params [] xs s h = h
    of_params (p ∷ ps) [] s h = h
    of_params (p ∷ ps) (x ∷ xs) s h = of_params ps xs (call_refs constraint p.refs x s).1 (all_called p.refs x s h)
