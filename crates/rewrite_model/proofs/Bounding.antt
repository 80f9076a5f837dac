-- A pattern makes at most as many operations as its declaration has operation expressions after expanding.
use Rattle.std.proofs.Common.{◌≡◌, ℕ, suc, ◌+◌, ◌≤◌, Bool, true, false, List, [], ◌∷◌, ◌++◌, map, Option, Some, None, refl, ap, arith}
use Rattle.std.specs.Option.{option_map_or}
use Rattle.std.specs.Str.{bytes_eq}
use Rattle.pdll_syntax.specs.declared.stmt.Body.{Body}
use Rattle.pdll_syntax.specs.declared.stmt.Body.TheVariants as body
use Rattle.pdll_syntax.specs.declared.stmt.Values.{Values}
use Rattle.pdll_syntax.specs.declared.stmt.Values.TheVariants.{One, Several}
use Rattle.pdll_syntax.specs.declared.file.Decl.{Decl}
use Rattle.pdll_syntax.specs.declared.file.Decl.TheVariants as decl
use Rattle.pdll_syntax.specs.declared.file.CallDecl.{CallDecl}
use Rattle.pdll_syntax.specs.ExprTree.{Expr as Syntax, expr, ExprForm, name_expr, call_expr, declare_expr, attr_expr, type_expr, op_expr, member_expr, OpExpr, operation, Entry, entry, Exprs, no_exprs, expr_then, Entries, no_entries, entry_then, no_expr, some_expr, MaybeExprs, left_out, written, exprs}
use Rattle.pdll_syntax.specs.StmtTree.{Stmt, stmt, StmtForm, let_stmt, erase_stmt, return_stmt, replace_stmt, rewrite_stmt, plain_stmt, Stmts, no_stmts, stmt_then, stmts, stmt_list}
use Rattle.native_set.specs.declared.native.Kind.{Kind}
use Rattle.native_set.specs.declared.native.Kind.TheVariants as kind
use Rattle.native_set.specs.declared.native.Rewrite.{Rewrite}
use Rattle.native_set.specs.Table.{rewrite_of}
use Rattle.rewrite_model.specs.Pattern.{the, Part, matched, native, Making, attr_literal, type_literal, new_operation, result_of, result_types_of, only_result_of, results_of, Action, makes, replaces, erases}
use Rattle.mlir_tree.specs.Tree.{unit}
use Rattle.rewrite_model.specs.MatchPart.{empty, attr_spelled, type_spelled}
use Rattle.rewrite_model.specs.Doing.{Doing, ◌>>=◌, pure}
use Rattle.rewrite_model.specs.Names.{Meant, Names, named_together}
use Rattle.rewrite_model.specs.RewritePart.{Script, Rewrites, act, make, see_part, look_up_part, operand_part, replacement_part, replaced_types, evaluated, form_evaluated, operation_evaluated, operands_evaluated, operand_list, types_evaluated, type_list, all_evaluated, entries_evaluated, entry_evaluated, replacement, replacement_list, replacements, replace_by, form_done, done, all_done}
use Rattle.rewrite_model.specs.Expanding.{param_names, given_kind, constraints, read_match, script_of, within_parts, make_native, call_rewrite, rewrites, rewrites_if, body_statements, form_rewrites, last_rewrites, expanded}
use Rattle.rewrite_model.specs.Size.{size_if, Called, expr_size, form_size, operation_size, list_size, exprs_size, entries_size, entry_size, values_size, stmt_size, stmt_form_size, stmts_size, body_size, call_size, sizes, expanded_size}
use Rattle.rewrite_model.specs.Laws.{is_new, new_operations, SizesBoundOperations}

-- ---- work that adds at most so many new operations

abbrev Adds : {A : Type 0} → Doing Script A → ℕ → Type 0
Adds w n = (s : Script) → new_operations (w s).1.actions ≤ new_operations s.actions + n

one_more : (xs : List Action) (x : Action) → new_operations (xs ++ x ∷ []) ≡ new_operations xs + is_new x
one_more [] x = omega arith
one_more (y ∷ xs) x = let e = one_more xs x in omega (arith, e)

none : {A : Type 0} (x : A) → Adds (pure x) 0
none x s = omega arith

both : {A B : Type 0} (p : Doing Script A) (f : A → Doing Script B) (n m : ℕ) → Adds p n → ((x : A) → Adds (f x) m) → Adds (p >>= f) (n + m)
both p f n m h k s = let a = h s in let b = k (p s).0 (p s).1 in omega (arith, a, b)

at_most : {A : Type 0} (p : Doing Script A) (n m : ℕ) → n ≤ m → Adds p n → Adds p m
at_most p n m l h s = let a = h s in omega (arith, l, a)

makes_one : (k : Kind) (x : Making) → Adds (make k x) (is_new (makes x))
makes_one k x s = let e = one_more s.actions (makes x) in omega (arith, e)

acts_one : (x : Action) → Adds (act x) (is_new x)
acts_one x s = let e = one_more s.actions x in omega (arith, e)

sees : (n : List ℕ) (x : Meant Part) → Adds (see_part n x) 0
sees n x s = omega arith

looks : (n : List ℕ) → Adds (look_up_part n) 0
looks n s = omega arith

operand : (x : Meant Part) → Adds (operand_part x) 0
operand x s = by x.kind where
  by : (k : Kind) → new_operations (operand_part (record { kind = k; is = x.is }) s).1.actions ≤ new_operations s.actions + 0
  by kind.Op = makes_one kind.Value (only_result_of x.is) s
  by kind.Attr = omega arith
  by kind.Ty = omega arith
  by kind.Tys = omega arith
  by kind.Value = omega arith
  by kind.Values = omega arith

replaces_with : (x : Meant Part) → Adds (replacement_part x) 0
replaces_with x s = by x.kind where
  by : (k : Kind) → new_operations (replacement_part (record { kind = k; is = x.is }) s).1.actions ≤ new_operations s.actions + 0
  by kind.Op = makes_one kind.Values (results_of x.is) s
  by kind.Attr = omega arith
  by kind.Ty = omega arith
  by kind.Tys = omega arith
  by kind.Value = omega arith
  by kind.Values = omega arith

types_of_replaced : (old : Option Part) → Adds (replaced_types old) 0
types_of_replaced None s = omega arith
types_of_replaced (Some p) s = makes_one kind.Tys (result_types_of p) s

module _ (rewrite : Rewrites) (called : Called) (calls : (n : List ℕ) (xs : List (Meant Part)) → Adds (rewrite n xs) (called.rewrite n).operations) where
  mutual
    of_expr : (e : Syntax) (old : Option Part) → Adds (evaluated rewrite e old) (expr_size called e).operations
    of_expr (expr at form) old s = of_form form old s

    of_form : (form : ExprForm) (old : Option Part) → Adds (form_evaluated rewrite form old) (form_size called form).operations
    of_form (name_expr n) old s = omega arith
    of_form (call_expr n es) old s =
        let a = of_all es s in
        let b = calls n (all_evaluated rewrite es s).0 (all_evaluated rewrite es s).1 in
        omega (arith, a, b)
    of_form (declare_expr n rs) old s = omega arith
    of_form (attr_expr l) old s = let a = makes_one kind.Attr (attr_literal (attr_spelled l.bytes)) s in omega (arith, a)
    of_form (type_expr l) old s = let a = makes_one kind.Ty (type_literal (type_spelled l.bytes)) s in omega (arith, a)
    of_form (op_expr o) old s = let a = of_operation o old s in omega (arith, a)
    of_form (member_expr e k) old s =
        let a = of_expr e old s in
        let b = makes_one kind.Value (result_of (evaluated rewrite e old s).0.is k) (evaluated rewrite e old s).1 in
        omega (arith, a, b)

    of_operation : (o : OpExpr) (old : Option Part) → Adds (operation_evaluated rewrite o old) (suc (operation_size called o).operations)
    of_operation (operation n os es ts) old s =
        let x = operands_evaluated rewrite os s in
        let y = entries_evaluated rewrite es x.1 in
        let z = types_evaluated rewrite ts old y.1 in
        let a = of_operands os s in
        let b = of_entries es x.1 in
        let c = of_types ts old y.1 in
        let d = makes_one kind.Op (new_operation n (record { operands = x.0; entries = y.0; types = z.0 })) z.1 in
        omega (arith, a, b, c, d)

    of_operands : (os : MaybeExprs) → Adds (operands_evaluated rewrite os) (list_size called os).operations
    of_operands left_out s = omega arith
    of_operands (written es) s = of_list es s

    of_list : (es : Exprs) → Adds (operand_list rewrite es) (exprs_size called es).operations
    of_list no_exprs s = omega arith
    of_list (expr_then e es) s =
        let x = evaluated rewrite e None s in
        let y = operand_part x.0 x.1 in
        let a = of_expr e None s in
        let b = operand x.0 x.1 in
        let c = of_list es y.1 in
        omega (arith, a, b, c)

    of_types : (ts : MaybeExprs) (old : Option Part) → Adds (types_evaluated rewrite ts old) (list_size called ts).operations
    of_types left_out old s = types_of_replaced old s
    of_types (written es) old s = of_type_list es s

    of_type_list : (es : Exprs) → Adds (type_list rewrite es) (exprs_size called es).operations
    of_type_list no_exprs s = omega arith
    of_type_list (expr_then e es) s =
        let x = evaluated rewrite e None s in
        let a = of_expr e None s in
        let b = of_type_list es x.1 in
        omega (arith, a, b)

    of_all : (es : Exprs) → Adds (all_evaluated rewrite es) (exprs_size called es).operations
    of_all no_exprs s = omega arith
    of_all (expr_then e es) s =
        let x = evaluated rewrite e None s in
        let a = of_expr e None s in
        let b = of_all es x.1 in
        omega (arith, a, b)

    of_entries : (es : Entries) → Adds (entries_evaluated rewrite es) (entries_size called es).operations
    of_entries no_entries s = omega arith
    of_entries (entry_then e es) s =
        let x = entry_evaluated rewrite e s in
        let a = of_entry e s in
        let b = of_entries es x.1 in
        omega (arith, a, b)

    of_entry : (e : Entry) → Adds (entry_evaluated rewrite e) (entry_size called e).operations
    of_entry (entry at n no_expr) s = let a = makes_one kind.Attr (attr_literal unit) s in omega (arith, a)
    of_entry (entry at n (some_expr e)) s = of_expr e None s

  -- ---- statements

  of_replacement : (old : Option Part) (e : Syntax) → Adds (replacement rewrite old e) (expr_size called e).operations
  of_replacement old e s =
      let x = evaluated rewrite e old s in
      let a = of_expr e old s in
      let b = replaces_with x.0 x.1 in
      omega (arith, a, b)

  of_replacements : (es : List Syntax) → Adds (replacement_list rewrite es) (exprs_size called (exprs es)).operations
  of_replacements [] s = omega arith
  of_replacements (e ∷ es) s =
      let x = replacement rewrite None e s in
      let a = of_replacement None e s in
      let b = of_replacements es x.1 in
      omega (arith, a, b)

  of_values : (old : Part) (values : Values) → Adds (replacements rewrite old values) (values_size called values).operations
  of_values old (One e) s = let a = of_replacement (Some old) e s in omega (arith, a)
  of_values old (Several es) s = of_replacements es s

  of_replace : (old : Part) (values : Values) → Adds (replace_by rewrite old values) (values_size called values).operations
  of_replace old values s =
      let x = replacements rewrite old values s in
      let a = of_values old values s in
      let b = acts_one (replaces old x.0) x.1 in
      omega (arith, a, b)

  of_form_done : (form : StmtForm) → Adds (form_done rewrite form) (stmt_form_size called form).operations
  of_form_done (let_stmt n rs (Some e)) s = let a = of_expr e None s in omega (arith, a)
  of_form_done (let_stmt n rs None) s = omega arith
  of_form_done (erase_stmt e) s =
      let x = evaluated rewrite e None s in
      let a = of_expr e None s in
      let b = acts_one (erases x.0.is) x.1 in
      omega (arith, a, b)
  of_form_done (replace_stmt e values) s =
      let x = evaluated rewrite e None s in
      let a = of_expr e None s in
      let b = of_replace x.0.is values x.1 in
      omega (arith, a, b)
  of_form_done (return_stmt e) s = of_expr e None s
  of_form_done (rewrite_stmt e ss end) s = omega arith
  of_form_done (plain_stmt e) s = of_expr e None s

  of_done : (t : Stmt) → Adds (done rewrite t) (stmt_size called t).operations
  of_done (stmt at form) s = let a = of_form_done form s in omega (arith, a)

  of_all_done : (ss : List Stmt) → Adds (all_done rewrite ss) (stmts_size called (stmts ss)).operations
  of_all_done [] s = omega arith
  of_all_done (t ∷ []) s = let a = of_done t s in omega (arith, a)
  of_all_done (t ∷ (u ∷ ss)) s =
      let x = done rewrite t s in
      let a = of_done t s in
      let b = of_all_done (u ∷ ss) x.1 in
      omega (arith, a, b)

-- ---- calls

of_native : (o : Option Rewrite) (k : Kind) (xs : List (Meant Part)) → Adds (make_native o k xs) 0
of_native None k xs s = omega arith
of_native (Some r) k xs s = makes_one k (native r (map (λ x. x.is) xs)) s

of_within : (names : Names Part) (w : Doing Script (Meant Part)) (n : ℕ) → Adds w n → Adds (within_parts names w) n
of_within names w n h s = h (record s { names = names })

module _ (earlier : Rewrites) (called : Called) (calls : (n : List ℕ) (xs : List (Meant Part)) → Adds (earlier n xs) (called.rewrite n).operations) where
  of_body : (c : CallDecl) (b : Body) (xs : List (Meant Part)) → Adds (call_rewrite earlier c b xs) (body_size called b).operations
  of_body c body.Absent xs s =
      of_native (rewrite_of c.name.text (map (λ x. x.kind) xs) (given_kind c)) (option_map_or (λ k. k) (given_kind c) kind.Attr) xs s
  of_body c (body.Braces ss end) xs s =
      of_within (named_together (param_names c.params) xs) (all_done earlier ss) (stmts_size called (stmts ss)).operations (of_all_done earlier called calls ss) s
  of_body c (body.One t) xs s = omega arith
  of_body c (body.Value e) xs s =
      let a = of_within (named_together (param_names c.params) xs) (evaluated earlier e None) (expr_size called e).operations (of_expr earlier called calls e None) s in
      omega (arith, a)

  of_call : (c : CallDecl) (xs : List (Meant Part)) → Adds (call_rewrite earlier c c.body xs) (call_size called c).operations
  of_call c xs s = let a = of_body c c.body xs s in omega (arith, a)

of_calls : (ds : List Decl) (n : List ℕ) (xs : List (Meant Part)) → Adds (rewrites ds n xs) ((sizes ds).rewrite n).operations
of_calls [] n xs s = omega arith
of_calls ((decl.Pattern p) ∷ ds) n xs s = of_calls ds n xs s
of_calls ((decl.Constraint c) ∷ ds) n xs s = of_calls ds n xs s
of_calls ((decl.Rewrite c) ∷ ds) n xs s = by (bytes_eq c.name.text n) (of_calls ds) where
  by : (b : Bool) → ((n : List ℕ) (xs : List (Meant Part)) → Adds (rewrites ds n xs) ((sizes ds).rewrite n).operations)
      → new_operations (rewrites_if b (rewrites ds) c n xs s).1.actions ≤ new_operations s.actions + (size_if b (call_size (sizes ds) c) ((sizes ds).rewrite n)).operations
  by true go = of_call (rewrites ds) (sizes ds) go c xs s
  by false go = go n xs s

-- ---- patterns

same_stmts : (ss : Stmts) → stmts (stmt_list ss) ≡ ss
same_stmts no_stmts = refl
same_stmts (stmt_then t ss) = ap (stmt_then t) (same_stmts ss)

module _ (ds : List Decl) (root : Part) where
  abbrev called : Called
  called = sizes ds

  of_form_rewrites : (form : StmtForm) → Adds (form_rewrites (rewrites ds) root form) (stmt_form_size called form).operations
  of_form_rewrites (erase_stmt e) s = let a = acts_one (erases root) s in omega (arith, a)
  of_form_rewrites (replace_stmt e values) s = let a = of_replace (rewrites ds) called (of_calls ds) root values s in omega (arith, a)
  of_form_rewrites (rewrite_stmt e ss end) s =
      let a = of_all_done (rewrites ds) called (of_calls ds) (stmt_list ss) s in
      let b : (stmts_size called (stmts (stmt_list ss))).operations ≡ (stmts_size called ss).operations = ap (λ z. (stmts_size called z).operations) (same_stmts ss) in
      omega (arith, a, b)
  of_form_rewrites (let_stmt n rs value) s = omega arith
  of_form_rewrites (return_stmt e) s = omega arith
  of_form_rewrites (plain_stmt e) s = omega arith

  of_last : (ss : List Stmt) → Adds (last_rewrites (rewrites ds) root ss) (stmts_size called (stmts ss)).operations
  of_last [] s = omega arith
  of_last ((stmt at form) ∷ []) s = let a = of_form_rewrites form s in omega (arith, a)
  of_last ((stmt at form) ∷ (u ∷ ss)) s = let a = of_last (u ∷ ss) s in omega (arith, a)

  body_is : (b : Body) → (stmts_size called (stmts (body_statements b))).operations ≤ (body_size called b).operations
  body_is body.Absent = omega arith
  body_is (body.Braces ss end) = omega arith
  body_is (body.One t) = omega arith
  body_is (body.Value e) = omega arith

pub sizes_bound_operations : SizesBoundOperations
unfolding expanded expanded_size
sizes_bound_operations ds p =
    let read = read_match (constraints ds) (body_statements p.body) empty in
    let a = of_last ds (matched (the read.0)) (body_statements p.body) (script_of read.1) in
    let b = body_is ds (matched (the read.0)) p.body in
    omega (arith, a, b)
