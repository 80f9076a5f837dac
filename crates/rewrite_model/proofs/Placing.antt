-- Each number of a match has a place.
use Rattle.std.proofs.Common.{◌≡◌, ℕ, ◌+◌, Bool, true, false, List, [], ◌∷◌, map, length, Option, Some, None, length-append, refl, sym, ap, ◌∙◌}
use Rattle.std.specs.Str.{bytes_eq}
use Rattle.pdll_syntax.specs.declared.stmt.Body.{Body}
use Rattle.pdll_syntax.specs.declared.stmt.Body.TheVariants as body
use Rattle.pdll_syntax.specs.declared.stmt.Param.{Param}
use Rattle.pdll_syntax.specs.declared.file.Decl.{Decl}
use Rattle.pdll_syntax.specs.declared.file.Decl.TheVariants as decl
use Rattle.pdll_syntax.specs.declared.file.CallDecl.{CallDecl}
use Rattle.pdll_syntax.specs.ExprTree.{Expr as Syntax, expr, ExprForm, name_expr, call_expr, declare_expr, attr_expr, type_expr, op_expr, member_expr, OpExpr, operation, Entry, entry, Ref, ref, RefForm, attr_ref, op_ref, type_ref, type_range_ref, value_ref, value_range_ref, named_ref, Exprs, no_exprs, expr_then, Entries, no_entries, entry_then, Refs, no_refs, ref_then, MaybeExpr, no_expr, some_expr, MaybeExprs, left_out, written, refs, ref_list}
use Rattle.pdll_syntax.specs.StmtTree.{Stmt, stmt, StmtForm, let_stmt, erase_stmt, return_stmt, replace_stmt, rewrite_stmt, plain_stmt}
use Rattle.native_set.specs.declared.native.Kind.{Kind}
use Rattle.native_set.specs.declared.native.Kind.TheVariants as kind
use Rattle.native_set.specs.declared.native.Constraint.{Constraint}
use Rattle.native_set.specs.Table.{constraint_of}
use Rattle.rewrite_model.specs.Pattern.{Expr}
use Rattle.rewrite_model.specs.Doing.{Doing, for_each}
use Rattle.rewrite_model.specs.Names.{Meant, ref_name, named_together}
use Rattle.rewrite_model.specs.MatchPart.{Scene, empty, Constrains, new_number, ask_name, ask_type, see_name, new_variable, as_operand, call_named, call_refs, kind_of_refs, variable, expression, form_at, operation_at, operands_at, operand_list, types_at, expressions, entries_of, entry_of, given, type_of_refs, type_of_ref, type_of_form, plain, let_value, statement}
use Rattle.rewrite_model.specs.Expanding.{param_names, within, call_params, body_asks, ask_native, call_constraint, constrains_if, constraints, body_statements, form_root, last_root, read_match, expanded, param_variables}
use Rattle.rewrite_model.specs.Own.{silent, own}
use Rattle.rewrite_model.specs.Laws.{NumbersHavePlaces}

-- as many places as kinds
abbrev IsPlaced : Scene → Type 0
IsPlaced s = length s.places ≡ length s.kinds

abbrev Keeps : {A : Type 0} → Doing Scene A → Type 0
Keeps w = (s : Scene) → IsPlaced s → IsPlaced (w s).1

numbered : (at : ℕ) (k : Kind) → Keeps (new_number at k)
numbered at k s h = length-append s.places (at ∷ []) ∙ (ap (λ n. n + 1) h ∙ sym (length-append s.kinds (k ∷ [])))

operand : (x : Meant Expr) → Keeps (as_operand x)
operand x s h = by x.kind where
  by : (k : Kind) → IsPlaced (as_operand (record { kind = k; is = x.is }) s).1
  by kind.Op = h
  by kind.Attr = h
  by kind.Ty = h
  by kind.Tys = h
  by kind.Value = h
  by kind.Values = h

names_asked : (x : Expr) (n : Option (List ℕ)) → Keeps (ask_name x n)
names_asked x None s h = h
names_asked x (Some n) s h = h

types_asked : (x : Expr) (t : Option Expr) → Keeps (ask_type x t)
types_asked x None s h = h
types_asked x (Some t) s h = h

module _ (constraint : List ℕ → Constrains) (calls : (n : List ℕ) (xs : List (Meant Expr)) → Keeps ((constraint n).call xs)) where
  one_called : (x : Meant Expr) (n : Option (List ℕ)) → Keeps (call_named constraint x n)
  one_called x None s h = h
  one_called x (Some n) s h = calls n (x ∷ []) s h

  all_called : (rs : List Ref) (x : Meant Expr) → Keeps (call_refs constraint rs x)
  all_called [] x s h = h
  all_called (r ∷ rs) x s h = all_called rs x (call_named constraint x (ref_name r) s).1 (one_called x (ref_name r) s h)

  a_variable : (at : ℕ) (rs : List Ref) (t : Option Expr) → Keeps (variable constraint at rs t)
  a_variable at rs t s h =
      let w = kind_of_refs constraint rs in
      let x = new_variable at w.kind s in
      let y = ask_name x.0.is w.name x.1 in
      let z = ask_type x.0.is t y.1 in
      all_called rs x.0 z.1 (types_asked x.0.is t y.1 (names_asked x.0.is w.name x.1 (numbered at w.kind s h)))

  mutual
    of_expr : (e : Syntax) → Keeps (expression constraint e)
    of_expr (expr at form) s h = of_form form at s h

    of_form : (form : ExprForm) (at : ℕ) → Keeps (form_at constraint form at)
    of_form (name_expr n) at s h = h
    of_form (call_expr n xs) at s h = h
    of_form (declare_expr n rs) at s h = let t = type_of_refs constraint rs s in a_variable at (ref_list rs) t.0 t.1 (of_refs rs s h)
    of_form (attr_expr l) at s h = numbered at kind.Attr s h
    of_form (type_expr l) at s h = numbered at kind.Ty s h
    of_form (op_expr o) at s h = of_operation o at s h
    of_form (member_expr e k) at s h = of_expr e s h

    of_operation : (o : OpExpr) (at : ℕ) → Keeps (operation_at constraint o at)
    of_operation (operation n os es ts) at s h =
        let x = operands_at constraint os at s in
        let y = entries_of constraint es x.1 in
        let z = types_at constraint ts at y.1 in
        numbered at kind.Op z.1 (of_types ts at y.1 (of_entries es x.1 (of_operands os at s h)))

    of_operands : (os : MaybeExprs) (at : ℕ) → Keeps (operands_at constraint os at)
    of_operands left_out at s h = numbered at kind.Values s h
    of_operands (written es) at s h = of_list es s h

    of_list : (es : Exprs) → Keeps (operand_list constraint es)
    of_list no_exprs s h = h
    of_list (expr_then e es) s h =
        let x = expression constraint e s in
        let y = as_operand x.0 x.1 in
        of_list es y.1 (operand x.0 x.1 (of_expr e s h))

    of_types : (ts : MaybeExprs) (at : ℕ) → Keeps (types_at constraint ts at)
    of_types left_out at s h = numbered at kind.Tys s h
    of_types (written es) at s h = of_all es s h

    of_all : (es : Exprs) → Keeps (expressions constraint es)
    of_all no_exprs s h = h
    of_all (expr_then e es) s h = of_all es (expression constraint e s).1 (of_expr e s h)

    of_entries : (es : Entries) → Keeps (entries_of constraint es)
    of_entries no_entries s h = h
    of_entries (entry_then e es) s h = of_entries es (entry_of constraint e s).1 (of_entry e s h)

    of_entry : (e : Entry) → Keeps (entry_of constraint e)
    of_entry (entry at n no_expr) s h = numbered at kind.Attr s h
    of_entry (entry at n (some_expr e)) s h = of_expr e s h

    of_given : (e : MaybeExpr) → Keeps (given constraint e)
    of_given no_expr s h = h
    of_given (some_expr e) s h = of_expr e s h

    of_refs : (rs : Refs) → Keeps (type_of_refs constraint rs)
    of_refs no_refs s h = h
    of_refs (ref_then r rs) s h = of_ref r (type_of_refs constraint rs) (of_refs rs) s h

    of_ref : (r : Ref) (more : Doing Scene (Option Expr)) → Keeps more → Keeps (type_of_ref constraint r more)
    of_ref (ref at form) more k s h = of_ref_form form more k s h

    of_ref_form : (form : RefForm) (more : Doing Scene (Option Expr)) → Keeps more → Keeps (type_of_form constraint form more)
    of_ref_form (attr_ref t) more k s h = of_given t s h
    of_ref_form (op_ref n) more k s h = h
    of_ref_form type_ref more k s h = h
    of_ref_form type_range_ref more k s h = h
    of_ref_form (value_ref t) more k s h = of_given t s h
    of_ref_form (value_range_ref t) more k s h = of_given t s h
    of_ref_form (named_ref n) more k s h = k s h

  -- ---- statements

  of_plain : (e : Syntax) → Keeps (plain constraint e)
  of_plain (expr at (call_expr n es)) s h = let x = expressions constraint es s in calls n x.0 x.1 (of_all es s h)
  of_plain e s h = of_expr e s h

  of_let : (rs : List Ref) (value : Option Syntax) (at : ℕ) → Keeps (let_value constraint rs value at)
  of_let rs None at s h = let t = type_of_refs constraint (refs rs) s in a_variable at rs t.0 t.1 (of_refs (refs rs) s h)
  of_let rs (Some e) at s h = let x = expression constraint e s in all_called rs x.0 x.1 (of_expr e s h)

  of_statement : (t : Stmt) → Keeps (statement constraint t)
  of_statement (stmt at (let_stmt n rs value)) s h = of_let rs value n.at s h
  of_statement (stmt at (plain_stmt e)) s h = of_plain e s h
  of_statement t s h = h

  of_statements : (ss : List Stmt) → Keeps (for_each (statement constraint) ss)
  of_statements [] s h = h
  of_statements (t ∷ ss) s h = of_statements ss (statement constraint t s).1 (of_statement t s h)

  of_params : (ps : List Param) (xs : List (Meant Expr)) → Keeps (call_params constraint ps xs)
  of_params [] xs s h = h
  of_params (p ∷ ps) [] s h = h
  of_params (p ∷ ps) (x ∷ xs) s h = of_params ps xs (call_refs constraint p.refs x s).1 (all_called p.refs x s h)

  of_body : (b : Body) → Keeps (body_asks constraint b)
  of_body body.Absent s h = h
  of_body (body.Braces ss end) s h = of_statements ss s h
  of_body (body.One t) s h = of_statement t s h
  of_body (body.Value e) s h = of_plain e s h

  of_inner : (c : CallDecl) (b : Body) (xs : List (Meant Expr)) → Keeps (within (named_together (param_names c.params) xs) (λ s. body_asks constraint b (call_params constraint c.params xs s).1))
  of_inner c b xs s h =
      let t : Scene = record s { names = named_together (param_names c.params) xs } in
      of_body b (call_params constraint c.params xs t).1 (of_params c.params xs t h)

  of_native : (o : Option Constraint) (xs : List (Meant Expr)) → Keeps (ask_native o xs)
  of_native None xs s h = h
  of_native (Some c) xs s h = h

  of_call : (c : CallDecl) (b : Body) (xs : List (Meant Expr)) → Keeps (call_constraint constraint c b xs)
  of_call c body.Absent xs s h = of_native (constraint_of c.name.text (map (λ x. x.kind) xs)) xs s h
  of_call c (body.Braces ss end) xs s h = of_inner c (body.Braces ss end) xs s h
  of_call c (body.One t) xs s h = of_inner c (body.One t) xs s h
  of_call c (body.Value e) xs s h = of_inner c (body.Value e) xs s h

  -- ---- the root

  of_root : (form : StmtForm) → Keeps (form_root constraint form)
  of_root (erase_stmt e) s h = of_expr e s h
  of_root (replace_stmt e values) s h = of_expr e s h
  of_root (rewrite_stmt e ss end) s h = of_expr e s h
  of_root (let_stmt n rs value) s h = h
  of_root (return_stmt e) s h = h
  of_root (plain_stmt e) s h = h

  of_last : (t : Stmt) → Keeps (last_root constraint t)
  of_last (stmt at form) s h = of_root form s h

  of_match : (ss : List Stmt) → Keeps (read_match constraint ss)
  of_match [] s h = h
  of_match (t ∷ []) s h = of_last t s h
  of_match (t ∷ (u ∷ ss)) s h = of_match (u ∷ ss) (statement constraint t s).1 (of_statement t s h)

  of_param_variables : (ps : List Param) → Keeps (param_variables constraint ps)
  of_param_variables [] s h = h
  of_param_variables (p ∷ ps) s h =
      let k = (kind_of_refs constraint p.refs).kind in
      let x = new_variable p.name.at k s in
      of_param_variables ps (see_name p.name.text x.0 x.1).1 (numbered p.name.at k s h)

of_calls : (ds : List Decl) (n : List ℕ) (xs : List (Meant Expr)) → Keeps ((constraints ds n).call xs)
of_calls [] n xs s h = h
of_calls ((decl.Pattern p) ∷ ds) n xs s h = of_calls ds n xs s h
of_calls ((decl.Rewrite c) ∷ ds) n xs s h = of_calls ds n xs s h
of_calls ((decl.Constraint c) ∷ ds) n xs s h = by (bytes_eq c.name.text n) (of_calls ds) where
  by : (b : Bool) → ((n : List ℕ) (xs : List (Meant Expr)) → Keeps ((constraints ds n).call xs)) → IsPlaced ((constrains_if b (constraints ds) c n).call xs s).1
  by true go = of_call (constraints ds) go c c.body xs s h
  by false go = go n xs s h

silent_calls : (ds : List Decl) (n : List ℕ) (xs : List (Meant Expr)) → Keeps ((silent (constraints ds) n).call xs)
silent_calls ds n xs s h = h

of_own : (ds : List Decl) (d : Decl) → IsPlaced (own ds d).scene
unfolding own
of_own ds (decl.Pattern p) = of_match (silent (constraints ds)) (silent_calls ds) (body_statements p.body) empty refl
of_own ds (decl.Constraint c) =
    let f = silent (constraints ds) in
    let x = param_variables f c.params empty in
    let y = call_params f c.params x.0 x.1 in
    of_body f (silent_calls ds) c.body y.1 (of_params f (silent_calls ds) c.params x.0 x.1 (of_param_variables f (silent_calls ds) c.params empty refl))
of_own ds (decl.Rewrite c) = refl

pub numbers_have_places : NumbersHavePlaces
unfolding expanded
numbers_have_places = (λ ds p. of_match (constraints ds) (of_calls ds) (body_statements p.body) empty refl, of_own)
