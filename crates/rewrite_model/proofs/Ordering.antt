-- Parts have no numbers above that of what they are parts of.
use Rattle.std.proofs.Common.{◌≡◌, ℕ, ◌+◌, ◌≤◌, Bool, true, false, cond, List, [], ◌∷◌, ◌++◌, map, length, Option, Some, None, length-append, arith}
use Rattle.std.specs.Prelude.{find, ⊤}
use Rattle.std.specs.Option.{option_map_or}
use Rattle.std.specs.Str.{bytes_eq}
use Rattle.std.specs.List.{AllByRecursion}
use Rattle.mlir_tree.specs.Tree.{unit}
use Rattle.pdll_syntax.specs.declared.stmt.Body.{Body}
use Rattle.pdll_syntax.specs.declared.stmt.Body.TheVariants as body
use Rattle.pdll_syntax.specs.declared.stmt.Param.{Param}
use Rattle.pdll_syntax.specs.declared.file.Decl.{Decl}
use Rattle.pdll_syntax.specs.declared.file.Decl.TheVariants as decl
use Rattle.pdll_syntax.specs.declared.file.CallDecl.{CallDecl}
use Rattle.pdll_syntax.specs.ExprTree.{Expr as Syntax, expr, ExprForm, name_expr, call_expr, declare_expr, attr_expr, type_expr, op_expr, member_expr, OpExpr, operation, Entry, entry, Ref, ref, RefForm, attr_ref, op_ref, type_ref, type_range_ref, value_ref, value_range_ref, named_ref, Exprs, no_exprs, expr_then, Entries, no_entries, entry_then, Refs, no_refs, ref_then, MaybeExpr, no_expr, some_expr, MaybeExprs, left_out, written, refs, ref_list}
use Rattle.pdll_syntax.specs.StmtTree.{Stmt, stmt, StmtForm, let_stmt, erase_stmt, return_stmt, replace_stmt, rewrite_stmt, plain_stmt}
use Rattle.native_set.specs.declared.native.Kind.{Kind}
use Rattle.native_set.specs.declared.native.Kind.TheVariants as kind
use Rattle.native_set.specs.declared.native.Constraint.{Constraint}
use Rattle.native_set.specs.Table.{constraint_of}
use Rattle.rewrite_model.specs.Pattern.{Parts, Expr, the, result, only_result, Demand, stands, has_name, has_parts, has_type, is_attr, is_type}
use Rattle.rewrite_model.specs.Pattern as asks
use Rattle.rewrite_model.specs.Determined.{values_of}
use Rattle.rewrite_model.specs.Doing.{Doing, for_each}
use Rattle.rewrite_model.specs.Names.{Meant, Names, meaning, ref_name, named_together}
use Rattle.rewrite_model.specs.MatchPart.{Scene, empty, Constrains, number_of, meant, new_number, ask, ask_name, ask_type, mention, new_variable, as_operand, attr_spelled, type_spelled, call_named, call_refs, kind_of_refs, variable, expression, form_at, operation_at, operands_at, operand_list, types_at, expressions, entries_of, entry_of, given, type_of_refs, type_of_ref, type_of_form, plain, let_value, statement}
use Rattle.rewrite_model.specs.Expanding.{param_names, within, call_params, body_asks, ask_native, call_constraint, constrains_if, constraints, body_statements, form_root, last_root, read_match, expanded}
use Rattle.rewrite_model.specs.Laws.{number_in, AreUpTo, HasPartsUpTo, PartsComeFirst}

-- an expression's number is at most this
abbrev Is : ℕ → Meant Expr → Type 0
Is n x = number_in x.is ≤ n

abbrev AreMeant : ℕ → List (Meant Expr) → Type 0
AreMeant n xs = AllByRecursion (Is n) xs

abbrev AreNames : ℕ → Names Expr → Type 0
AreNames n ns = AllByRecursion (λ e. number_in e.1.is ≤ n) ns

abbrev IsMaybe : ℕ → Option Expr → Type 0
IsMaybe n None = ⊤
IsMaybe n (Some e) = number_in e ≤ n

-- names and demands go no further than there are numbers
record Fits (s : Scene) : Type 0 where
  names : AreNames (length s.kinds) s.names
  demands : AllByRecursion HasPartsUpTo s.demands

-- what work leaves, and what it gives
record Leaves {A : Type 0} (R : ℕ → A → Type 0) (s : Scene) (r : A × Scene) : Type 0 where
  fits : Fits r.1
  more : length s.kinds ≤ length r.1.kinds
  gives : R (length r.1.kinds) r.0

abbrev Keeps : {A : Type 0} → (ℕ → A → Type 0) → Doing Scene A → Type 0
Keeps R w = (s : Scene) → Fits s → Leaves R s (w s)

abbrev Nothing : ℕ → Unit {0} → Type 0
Nothing n x = ⊤

-- ---- lists

up : (n m : ℕ) → n ≤ m → (es : List Expr) → AreUpTo n es → AreUpTo m es
up n m l [] h = h
up n m l (e ∷ es) h = let a = h.0 in (omega (arith, l, a), up n m l es h.1)

up_meant : (n m : ℕ) → n ≤ m → (xs : List (Meant Expr)) → AreMeant n xs → AreMeant m xs
up_meant n m l [] h = h
up_meant n m l (x ∷ xs) h = let a = h.0 in (omega (arith, l, a), up_meant n m l xs h.1)

up_names : (n m : ℕ) → n ≤ m → (ns : Names Expr) → AreNames n ns → AreNames m ns
up_names n m l [] h = h
up_names n m l (e ∷ ns) h = let a = h.0 in (omega (arith, l, a), up_names n m l ns h.1)

put_last : (ds : List Demand) (d : Demand) → AllByRecursion HasPartsUpTo ds → HasPartsUpTo d → AllByRecursion HasPartsUpTo (ds ++ d ∷ [])
put_last [] d h k = (k, h)
put_last (c ∷ ds) d h k = (h.0, put_last ds d h.1 k)

of_meant : (n : ℕ) (xs : List (Meant Expr)) → AreMeant n xs → AreUpTo n (map (λ x. x.is) xs)
of_meant n [] h = h
of_meant n (x ∷ xs) h = (h.0, of_meant n xs h.1)

looked_up : (ns : Names Expr) (n : List ℕ) (d : Meant Expr) (m : ℕ) → AreNames m ns → Is m d → Is m (meaning ns n d)
looked_up [] n d m h k = k
looked_up (e ∷ ns) n d m h k = by (bytes_eq e.0 n) (looked_up ns n d m h.1 k) where
  by : (b : Bool) → Is m (meaning ns n d) → Is m (option_map_or (λ (e : List ℕ × Meant Expr). e.1) (cond b (Some e) (find (λ (e : List ℕ × Meant Expr). bytes_eq e.0 n) ns)) d)
  by true go = h.0
  by false go = go

together : (m : ℕ) (ns : List (List ℕ)) (xs : List (Meant Expr)) → AreMeant m xs → AreNames m (named_together ns xs)
together m [] xs h = tt
together m (n ∷ ns) [] h = tt
together m (n ∷ ns) (x ∷ xs) h = (h.0, together m ns xs h.1)

-- ---- the steps

asked : (d : Demand) (s : Scene) → Fits s → HasPartsUpTo d → Fits (ask d s).1
asked d s f h = record { names = f.names; demands = put_last s.demands d f.demands h }

longer : (ks : List Kind) (k : Kind) → length (ks ++ k ∷ []) ≡ length ks + 1
longer ks k = length-append ks (k ∷ [])

numbered : (at : ℕ) (k : Kind) → Keeps Is (new_number at k)
numbered at k s f =
    let l = longer s.kinds k in
    record {
      fits = record { names = up_names (length s.kinds) (length (s.kinds ++ k ∷ [])) (omega (arith, l)) s.names f.names; demands = f.demands };
      more = omega (arith, l);
      gives = omega (arith, l);
    }

mentioned : (k : Kind) (e : Expr) (s : Scene) → Fits s → number_in e ≤ length s.kinds → Leaves Is s (mention k e s)
mentioned k e s f h = record { fits = asked (stands e) s f tt; more = omega arith; gives = h }

new_one : (at : ℕ) (k : Kind) → Keeps Is (new_variable at k)
new_one at k s f =
    let a = numbered at k s f in
    let x = new_number at k s in
    let b = mentioned k x.0.is x.1 a.fits a.gives in
    let m = a.more in
    record { fits = b.fits; more = m; gives = b.gives }

number_up : (e : Expr) (n : ℕ) → number_in e ≤ n → number_of e ≤ n
number_up (the x) n h = h
number_up (result x k) n h = omega arith
number_up (only_result x) n h = omega arith

operand : (x : Meant Expr) (s : Scene) → Fits s → Is (length s.kinds) x → Leaves Is s (as_operand x s)
operand x s f h = by x.kind where
  same : Leaves Is s (x, s)
  same = record { fits = f; more = omega arith; gives = h }

  by : (k : Kind) → Leaves Is s (as_operand (record { kind = k; is = x.is }) s)
  by kind.Op = mentioned kind.Value (only_result (number_of x.is)) s f (number_up x.is (length s.kinds) h)
  by kind.Attr = record { fits = f; more = omega arith; gives = h }
  by kind.Ty = record { fits = f; more = omega arith; gives = h }
  by kind.Tys = record { fits = f; more = omega arith; gives = h }
  by kind.Value = record { fits = f; more = omega arith; gives = h }
  by kind.Values = record { fits = f; more = omega arith; gives = h }

names_asked : (x : Expr) (n : Option (List ℕ)) → Keeps Nothing (ask_name x n)
names_asked x None s f = record { fits = f; more = omega arith; gives = tt }
names_asked x (Some n) s f = record { fits = asked (has_name (number_of x) n) s f tt; more = omega arith; gives = tt }

up_maybe : (n m : ℕ) → n ≤ m → (t : Option Expr) → IsMaybe n t → IsMaybe m t
up_maybe n m l None h = h
up_maybe n m l (Some e) h = omega (arith, l, h)

-- the type of a variable comes before it
types_asked : (x : ℕ) (t : Option Expr) → IsMaybe x t → Keeps Nothing (ask_type (the x) t)
types_asked x None h s f = record { fits = f; more = omega arith; gives = tt }
types_asked x (Some e) h s f = record { fits = asked (has_type x e) s f h; more = omega arith; gives = tt }

-- one piece of work behind another
then_gives : {A B : Type 0} (R : ℕ → B → Type 0) (P : ℕ → A → Type 0) (s : Scene) (r : A × Scene) (q : B × Scene) → Leaves P s r → Leaves R r.1 q → Leaves R s q
then_gives R P s r q a b = let l = a.more in let m = b.more in record { fits = b.fits; more = omega (arith, l, m); gives = b.gives }

module _ (constraint : List ℕ → Constrains) (calls : (n : List ℕ) (xs : List (Meant Expr)) (s : Scene) → Fits s → AreMeant (length s.kinds) xs → Leaves Nothing s ((constraint n).call xs s)) where
  one_called : (x : Meant Expr) (n : Option (List ℕ)) (s : Scene) → Fits s → Is (length s.kinds) x → Leaves Nothing s (call_named constraint x n s)
  one_called x None s f h = record { fits = f; more = omega arith; gives = tt }
  one_called x (Some n) s f h = calls n (x ∷ []) s f (h, tt)

  all_called : (rs : List Ref) (x : Meant Expr) (s : Scene) → Fits s → Is (length s.kinds) x → Leaves Nothing s (call_refs constraint rs x s)
  all_called [] x s f h = record { fits = f; more = omega arith; gives = tt }
  all_called (r ∷ rs) x s f h =
      let y = call_named constraint x (ref_name r) s in
      let a = one_called x (ref_name r) s f h in
      let l = a.more in
      then_gives Nothing Nothing s y (call_refs constraint rs x y.1) a (all_called rs x y.1 a.fits (omega (arith, h, l)))

  a_variable : (at : ℕ) (rs : List Ref) (t : Option Expr) (s : Scene) → Fits s → IsMaybe (length s.kinds) t → Leaves Is s (variable constraint at rs t s)
  a_variable at rs t s f h =
      let w = kind_of_refs constraint rs in
      let x = new_variable at w.kind s in
      let y = ask_name x.0.is w.name x.1 in
      let z = ask_type x.0.is t y.1 in
      let a = new_one at w.kind s f in
      let b = names_asked x.0.is w.name x.1 a.fits in
      let c = types_asked (length s.kinds) t h y.1 b.fits in
      let k = a.more in
      let l = b.more in
      let m = c.more in
      let g = a.gives in
      let d = all_called rs x.0 z.1 c.fits (omega (arith, g, l, m)) in
      let o = d.more in
      record { fits = d.fits; more = omega (arith, k, l, m, o); gives = omega (arith, g, l, m, o) }

  mutual
    of_expr : (e : Syntax) → Keeps Is (expression constraint e)
    of_expr (expr at form) s f = of_form form at s f

    of_form : (form : ExprForm) (at : ℕ) → Keeps Is (form_at constraint form at)
    of_form (name_expr n) at s f = record { fits = f; more = omega arith; gives = looked_up s.names n (meant kind.Value (the 0)) (length s.kinds) f.names (omega arith) }
    of_form (call_expr n xs) at s f = record { fits = f; more = omega arith; gives = omega arith }
    of_form (declare_expr n rs) at s f =
        let t = type_of_refs constraint rs s in
        let a = of_refs rs s f in
        let x = variable constraint at (ref_list rs) t.0 t.1 in
        let b = a_variable at (ref_list rs) t.0 t.1 a.fits a.gives in
        let k = a.more in
        let l = b.more in
        record { fits = record { names = (b.gives, b.fits.names); demands = b.fits.demands }; more = omega (arith, k, l); gives = b.gives }
    of_form (attr_expr l) at s f =
        let x = new_number at kind.Attr s in
        let a = numbered at kind.Attr s f in
        record { fits = asked (is_attr (number_of x.0.is) (attr_spelled l.bytes)) x.1 a.fits tt; more = a.more; gives = a.gives }
    of_form (type_expr l) at s f =
        let x = new_number at kind.Ty s in
        let a = numbered at kind.Ty s f in
        record { fits = asked (is_type (number_of x.0.is) (type_spelled l.bytes)) x.1 a.fits tt; more = a.more; gives = a.gives }
    of_form (op_expr o) at s f = of_operation o at s f
    of_form (member_expr e k) at s f =
        let x = expression constraint e s in
        let a = of_expr e s f in
        then_gives Is Is s x (mention kind.Value (result (number_of x.0.is) k) x.1) a (mentioned kind.Value (result (number_of x.0.is) k) x.1 a.fits (number_up x.0.is (length x.1.kinds) a.gives))

    of_operation : (o : OpExpr) (at : ℕ) → Keeps Is (operation_at constraint o at)
    of_operation (operation n os es ts) at s f =
        let x = operands_at constraint os at s in
        let y = entries_of constraint es x.1 in
        let z = types_at constraint ts at y.1 in
        let w = new_number at kind.Op z.1 in
        let a = of_operands os at s f in
        let b = of_entries es x.1 a.fits in
        let c = of_types ts at y.1 b.fits in
        let d = numbered at kind.Op z.1 c.fits in
        let k = a.more in
        let l = b.more in
        let m = c.more in
        let o = d.more in
        let named = asked (has_name (length z.1.kinds) n) w.1 d.fits tt in
        let u = ask (has_name (length z.1.kinds) n) w.1 in
        let parts : HasPartsUpTo (has_parts (length z.1.kinds) (record { operands = x.0; entries = y.0; types = z.0 })) =
        (up (length x.1.kinds) (length z.1.kinds) (omega (arith, l, m)) x.0 a.gives, up (length y.1.kinds) (length z.1.kinds) m (values_of y.0) b.gives, c.gives) in
        record {
          fits = asked (has_parts (length z.1.kinds) (record { operands = x.0; entries = y.0; types = z.0 })) u.1 named parts;
          more = omega (arith, k, l, m, o);
          gives = d.gives;
        }

    of_operands : (os : MaybeExprs) (at : ℕ) → Keeps AreUpTo (operands_at constraint os at)
    of_operands left_out at s f = let a = new_one at kind.Values s f in record { fits = a.fits; more = a.more; gives = (a.gives, tt) }
    of_operands (written es) at s f = of_list es s f

    of_list : (es : Exprs) → Keeps AreUpTo (operand_list constraint es)
    of_list no_exprs s f = record { fits = f; more = omega arith; gives = tt }
    of_list (expr_then e es) s f =
        let x = expression constraint e s in
        let y = as_operand x.0 x.1 in
        let z = operand_list constraint es y.1 in
        let a = of_expr e s f in
        let b = operand x.0 x.1 a.fits a.gives in
        let c = of_list es y.1 b.fits in
        let k = a.more in
        let l = b.more in
        let m = c.more in
        let g = b.gives in
        record { fits = c.fits; more = omega (arith, k, l, m); gives = (omega (arith, g, m), c.gives) }

    of_types : (ts : MaybeExprs) (at : ℕ) → Keeps AreUpTo (types_at constraint ts at)
    of_types left_out at s f = let a = new_one at kind.Tys s f in record { fits = a.fits; more = a.more; gives = (a.gives, tt) }
    of_types (written es) at s f =
        let x = expressions constraint es s in
        let a = of_all es s f in
        record { fits = a.fits; more = a.more; gives = of_meant (length x.1.kinds) x.0 a.gives }

    of_all : (es : Exprs) → Keeps AreMeant (expressions constraint es)
    of_all no_exprs s f = record { fits = f; more = omega arith; gives = tt }
    of_all (expr_then e es) s f =
        let x = expression constraint e s in
        let a = of_expr e s f in
        let b = of_all es x.1 a.fits in
        let k = a.more in
        let l = b.more in
        let g = a.gives in
        record { fits = b.fits; more = omega (arith, k, l); gives = (omega (arith, g, l), b.gives) }

    of_entries : (es : Entries) → Keeps (λ n xs. AreUpTo n (values_of xs)) (entries_of constraint es)
    of_entries no_entries s f = record { fits = f; more = omega arith; gives = tt }
    of_entries (entry_then e es) s f =
        let x = entry_of constraint e s in
        let a = of_entry e s f in
        let b = of_entries es x.1 a.fits in
        let k = a.more in
        let l = b.more in
        let g = a.gives in
        record { fits = b.fits; more = omega (arith, k, l); gives = (omega (arith, g, l), b.gives) }

    of_entry : (e : Entry) → Keeps (λ n x. number_in x.1 ≤ n) (entry_of constraint e)
    of_entry (entry at n no_expr) s f =
        let x = new_number at kind.Attr s in
        let a = numbered at kind.Attr s f in
        record { fits = asked (is_attr (number_of x.0.is) unit) x.1 a.fits tt; more = a.more; gives = a.gives }
    of_entry (entry at n (some_expr e)) s f = let a = of_expr e s f in record { fits = a.fits; more = a.more; gives = a.gives }

    of_given : (e : MaybeExpr) → Keeps IsMaybe (given constraint e)
    of_given no_expr s f = record { fits = f; more = omega arith; gives = tt }
    of_given (some_expr e) s f = let a = of_expr e s f in record { fits = a.fits; more = a.more; gives = a.gives }

    of_refs : (rs : Refs) → Keeps IsMaybe (type_of_refs constraint rs)
    of_refs no_refs s f = record { fits = f; more = omega arith; gives = tt }
    of_refs (ref_then r rs) s f = of_ref r (type_of_refs constraint rs) (of_refs rs) s f

    of_ref : (r : Ref) (more : Doing Scene (Option Expr)) → Keeps IsMaybe more → Keeps IsMaybe (type_of_ref constraint r more)
    of_ref (ref at form) more k s f = of_ref_form form more k s f

    of_ref_form : (form : RefForm) (more : Doing Scene (Option Expr)) → Keeps IsMaybe more → Keeps IsMaybe (type_of_form constraint form more)
    of_ref_form (attr_ref t) more k s f = of_given t s f
    of_ref_form (op_ref n) more k s f = record { fits = f; more = omega arith; gives = tt }
    of_ref_form type_ref more k s f = record { fits = f; more = omega arith; gives = tt }
    of_ref_form type_range_ref more k s f = record { fits = f; more = omega arith; gives = tt }
    of_ref_form (value_ref t) more k s f = of_given t s f
    of_ref_form (value_range_ref t) more k s f = of_given t s f
    of_ref_form (named_ref n) more k s f = k s f

  -- ---- statements

  forgets : {A : Type 0} (R : ℕ → A → Type 0) (s : Scene) (r : A × Scene) → Leaves R s r → Leaves Nothing s (tt, r.1)
  forgets R s r a = record { fits = a.fits; more = a.more; gives = tt }

  of_plain : (e : Syntax) → Keeps Nothing (plain constraint e)
  of_plain (expr at (call_expr n es)) s f =
      let x = expressions constraint es s in
      let a = of_all es s f in
      then_gives Nothing AreMeant s x ((constraint n).call x.0 x.1) a (calls n x.0 x.1 a.fits a.gives)
  of_plain e s f = forgets Is s (expression constraint e s) (of_expr e s f)

  of_let : (rs : List Ref) (value : Option Syntax) (at : ℕ) → Keeps Is (let_value constraint rs value at)
  of_let rs None at s f =
      let t = type_of_refs constraint (refs rs) s in
      let a = of_refs (refs rs) s f in
      then_gives Is IsMaybe s t (variable constraint at rs t.0 t.1) a (a_variable at rs t.0 t.1 a.fits a.gives)
  of_let rs (Some e) at s f =
      let x = expression constraint e s in
      let a = of_expr e s f in
      let b = all_called rs x.0 x.1 a.fits a.gives in
      let k = a.more in
      let l = b.more in
      let g = a.gives in
      record { fits = b.fits; more = omega (arith, k, l); gives = omega (arith, g, l) }

  nothing_done : (s : Scene) → Fits s → Leaves Nothing s (tt, s)
  nothing_done s f = record { fits = f; more = omega arith; gives = tt }

  of_statement : (t : Stmt) → Keeps Nothing (statement constraint t)
  of_statement (stmt at (let_stmt n rs value)) s f =
      let a = of_let rs value n.at s f in
      record { fits = record { names = (a.gives, a.fits.names); demands = a.fits.demands }; more = a.more; gives = tt }
  of_statement (stmt at (plain_stmt e)) s f = of_plain e s f
  of_statement t s f = nothing_done s f

  of_statements : (ss : List Stmt) → Keeps Nothing (for_each (statement constraint) ss)
  of_statements [] s f = nothing_done s f
  of_statements (t ∷ ss) s f =
      let x = statement constraint t s in
      let a = of_statement t s f in
      then_gives Nothing Nothing s x (for_each (statement constraint) ss x.1) a (of_statements ss x.1 a.fits)

  of_params : (ps : List Param) (xs : List (Meant Expr)) (s : Scene) → Fits s → AreMeant (length s.kinds) xs → Leaves Nothing s (call_params constraint ps xs s)
  of_params [] xs s f h = nothing_done s f
  of_params (p ∷ ps) [] s f h = nothing_done s f
  of_params (p ∷ ps) (x ∷ xs) s f h =
      let y = call_refs constraint p.refs x s in
      let a = all_called p.refs x s f h.0 in
      then_gives Nothing Nothing s y (call_params constraint ps xs y.1) a (of_params ps xs y.1 a.fits (up_meant (length s.kinds) (length y.1.kinds) a.more xs h.1))

  of_body : (b : Body) → Keeps Nothing (body_asks constraint b)
  of_body body.Absent s f = nothing_done s f
  of_body (body.Braces ss end) s f = of_statements ss s f
  of_body (body.One t) s f = of_statement t s f
  of_body (body.Value e) s f = of_plain e s f

  -- the names around a body are there again behind it
  of_inner : (c : CallDecl) (b : Body) (xs : List (Meant Expr)) (s : Scene) → Fits s → AreMeant (length s.kinds) xs
      → Leaves Nothing s (within (named_together (param_names c.params) xs) (λ t. body_asks constraint b (call_params constraint c.params xs t).1) s)
  of_inner c b xs s f h =
      let t : Scene = record s { names = named_together (param_names c.params) xs } in
      let x = call_params constraint c.params xs t in
      let y = body_asks constraint b x.1 in
      let a = of_params c.params xs t (record { names = together (length s.kinds) (param_names c.params) xs h; demands = f.demands }) h in
      let d = of_body b x.1 a.fits in
      let k = a.more in
      let l = d.more in
      record {
        fits = record { names = up_names (length s.kinds) (length y.1.kinds) (omega (arith, k, l)) s.names f.names; demands = d.fits.demands };
        more = omega (arith, k, l);
        gives = tt;
      }

  of_native : (o : Option Constraint) (xs : List (Meant Expr)) → Keeps Nothing (ask_native o xs)
  of_native None xs s f = nothing_done s f
  of_native (Some c) xs s f = record { fits = asked (asks.calls c (map (λ x. x.is) xs)) s f tt; more = omega arith; gives = tt }

  of_call : (c : CallDecl) (b : Body) (xs : List (Meant Expr)) (s : Scene) → Fits s → AreMeant (length s.kinds) xs → Leaves Nothing s (call_constraint constraint c b xs s)
  of_call c body.Absent xs s f h = of_native (constraint_of c.name.text (map (λ x. x.kind) xs)) xs s f
  of_call c (body.Braces ss end) xs s f h = of_inner c (body.Braces ss end) xs s f h
  of_call c (body.One t) xs s f h = of_inner c (body.One t) xs s f h
  of_call c (body.Value e) xs s f h = of_inner c (body.Value e) xs s f h

  -- ---- the root

  of_root : (form : StmtForm) → Keeps (λ n x. ⊤) (form_root constraint form)
  of_root (erase_stmt e) s f = let a = of_expr e s f in record { fits = a.fits; more = a.more; gives = tt }
  of_root (replace_stmt e values) s f = let a = of_expr e s f in record { fits = a.fits; more = a.more; gives = tt }
  of_root (rewrite_stmt e ss end) s f = let a = of_expr e s f in record { fits = a.fits; more = a.more; gives = tt }
  of_root (let_stmt n rs value) s f = record { fits = f; more = omega arith; gives = tt }
  of_root (return_stmt e) s f = record { fits = f; more = omega arith; gives = tt }
  of_root (plain_stmt e) s f = record { fits = f; more = omega arith; gives = tt }

  of_last : (t : Stmt) → Keeps (λ n x. ⊤) (last_root constraint t)
  of_last (stmt at form) s f = of_root form s f

  of_match : (ss : List Stmt) → Keeps (λ n x. ⊤) (read_match constraint ss)
  of_match [] s f = record { fits = f; more = omega arith; gives = tt }
  of_match (t ∷ []) s f = of_last t s f
  of_match (t ∷ (u ∷ ss)) s f =
      let x = statement constraint t s in
      let a = of_statement t s f in
      then_gives (λ n x. ⊤) Nothing s x (read_match constraint (u ∷ ss) x.1) a (of_match (u ∷ ss) x.1 a.fits)

of_calls : (ds : List Decl) (n : List ℕ) (xs : List (Meant Expr)) (s : Scene) → Fits s → AreMeant (length s.kinds) xs → Leaves Nothing s ((constraints ds n).call xs s)
of_calls [] n xs s f h = record { fits = f; more = omega arith; gives = tt }
of_calls ((decl.Pattern p) ∷ ds) n xs s f h = of_calls ds n xs s f h
of_calls ((decl.Rewrite c) ∷ ds) n xs s f h = of_calls ds n xs s f h
of_calls ((decl.Constraint c) ∷ ds) n xs s f h = by (bytes_eq c.name.text n) (of_calls ds) where
  by : (b : Bool) → ((n : List ℕ) (xs : List (Meant Expr)) (s : Scene) → Fits s → AreMeant (length s.kinds) xs → Leaves Nothing s ((constraints ds n).call xs s))
      → Leaves Nothing s ((constrains_if b (constraints ds) c n).call xs s)
  by true go = of_call (constraints ds) go c c.body xs s f h
  by false go = go n xs s f h

pub parts_come_first : PartsComeFirst
unfolding expanded
parts_come_first ds p = (of_match (constraints ds) (of_calls ds) (body_statements p.body) empty (record { names = tt; demands = tt })).fits.demands
