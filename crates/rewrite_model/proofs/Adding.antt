-- A constraint that is determined alone, read in place of a call, adds no numbers but those of literals.
use Rattle.std.proofs.Common.{◌≡◌, inl, inr, ℕ, zero, suc, ◌+◌, ◌≤◌, ◌<◌, Bool, true, false, List, [], ◌∷◌, ◌++◌, map, length, Option, Some, None, length-append, refl, ap, subst, arith}
use Rattle.std.specs.Prelude.{◌⊎◌, ⊤, slice_get}
use Rattle.std.specs.Str.{bytes_eq}
use Rattle.std.proofs.lemmas.Bool.{cases_lt}
use Rattle.std.specs.List.{AllByRecursion}
use Rattle.mlir_tree.specs.Tree.{Ty, Attr}
use Rattle.pdll_syntax.specs.declared.stmt.Body.{Body}
use Rattle.pdll_syntax.specs.declared.stmt.Body.TheVariants as body
use Rattle.pdll_syntax.specs.declared.stmt.Param.{Param}
use Rattle.pdll_syntax.specs.declared.file.Decl.{Decl}
use Rattle.pdll_syntax.specs.declared.file.Decl.TheVariants as decl
use Rattle.pdll_syntax.specs.declared.file.CallDecl.{CallDecl}
use Rattle.pdll_syntax.specs.ExprTree.{Expr as Syntax, expr, ExprForm, name_expr, call_expr, declare_expr, attr_expr, type_expr, op_expr, member_expr, Ref, Exprs, no_exprs, expr_then}
use Rattle.pdll_syntax.specs.StmtTree.{Stmt, stmt, let_stmt, plain_stmt}
use Rattle.native_set.specs.declared.native.Kind.{Kind}
use Rattle.native_set.specs.declared.native.Kind.TheVariants as kind
use Rattle.native_set.specs.declared.native.Constraint.{Constraint}
use Rattle.native_set.specs.Table.{constraint_of}
use Rattle.rewrite_model.specs.Pattern.{Parts, Expr, result, Demand, stands, is_attr, is_type, has_parts}
use Rattle.rewrite_model.specs.Pattern as asks
use Rattle.rewrite_model.specs.Doing.{for_each}
use Rattle.rewrite_model.specs.Names.{Meant, Names, ref_name, named_together}
use Rattle.rewrite_model.specs.MatchPart.{Scene, Constrains, number_of, new_number, ask, call_named, call_refs, expression, form_at, expressions, plain, let_value, statement}
use Rattle.rewrite_model.specs.Expanding.{constraints, constrains_if, param_names, within, ask_native, call_constraint, call_params, body_asks}
use Rattle.rewrite_model.specs.Determined.{IsIn}
use Rattle.rewrite_model.specs.Own.{own, IsDeterminedAlone}
use Rattle.rewrite_model.proofs.Reading.{with_attr, with_type}
use Rattle.rewrite_model.proofs.Apart.{IsTold, in_front, in_last, in_either, heads}
use Rattle.rewrite_model.proofs.Plain.{IsPlain, IsPlainForm, ArePlain, IsPlainAlone, IsPlainStatement, IsPlainBody, alone_is_plain}

-- A scene becomes another one by literals, and by demands that tell nothing.
pub record Adds (s t : Scene) : Type 0 where
  pub longer : length s.kinds ≤ length t.kinds
  pub kinds : (x : ℕ) (k : Kind) → slice_get s.kinds x ≡ Some k → slice_get t.kinds x ≡ Some k
  pub kept : (d : Demand) → IsIn d s.demands → IsIn d t.demands
  pub told : (x : ℕ) → x < length t.kinds → (x < length s.kinds) ⊎ IsTold x t.demands
  pub parts : (x : ℕ) (o : Parts Expr) → IsIn (has_parts x o) t.demands → IsIn (has_parts x o) s.demands

pub front_get : {X : Type 0} (xs ys : List X) (n : ℕ) (x : X) → slice_get xs n ≡ Some x → slice_get (xs ++ ys) n ≡ Some x
front_get [] ys n x h = absurd (cc)
front_get (y ∷ xs) ys zero x h = h
front_get (y ∷ xs) ys (suc n) x h = front_get xs ys n x h

pub still_told : (x : ℕ) (ds es : List Demand) → ((d : Demand) → IsIn d ds → IsIn d es) → IsTold x ds → IsTold x es
still_told x ds es kept (inl i) = inl (i.0, kept (is_attr x i.0) i.1)
still_told x ds es kept (inr i) = inr (i.0, kept (is_type x i.0) i.1)

adds_nothing : (s : Scene) (ns : Names Expr) → Adds s (record s { names = ns })
adds_nothing s ns = record { longer = omega arith; kinds = λ x k h. h; kept = λ d i. i; told = λ x l. inl l; parts = λ x o i. i }

adds_both : (s t u : Scene) → Adds s t → Adds t u → Adds s u
adds_both s t u a b =
    let l = a.longer in
    let m = b.longer in
    record {
      longer = omega (arith, l, m);
      kinds = λ x k h. b.kinds x k (a.kinds x k h);
      kept = λ d i. b.kept d (a.kept d i);
      told = λ x n. by x (b.told x n);
      parts = λ x o i. a.parts x o (b.parts x o i);
    } where
      old : (x : ℕ) → (x < length s.kinds) ⊎ IsTold x t.demands → (x < length s.kinds) ⊎ IsTold x u.demands
      old x (inl l) = inl l
      old x (inr i) = inr (still_told x t.demands u.demands b.kept i)

      by : (x : ℕ) → (x < length t.kinds) ⊎ IsTold x u.demands → (x < length s.kinds) ⊎ IsTold x u.demands
      by x (inl l) = old x (a.told x l)
      by x (inr i) = inr i

not_parts : (x : ℕ) (o : Parts Expr) (ds : List Demand) (d : Demand) → heads d ≡ false → IsIn (has_parts x o) (ds ++ d ∷ []) → IsIn (has_parts x o) ds
not_parts x o ds d h i = by (in_either (has_parts x o) ds d i) where
  by : IsIn (has_parts x o) ds ⊎ (has_parts x o ≡ d) → IsIn (has_parts x o) ds
  by (inl j) = j
  by (inr e) = let c = ap heads e in absurd (cc)

adds_asked : (d : Demand) (s : Scene) → heads d ≡ false → Adds s (ask d s).1
adds_asked d s h = record {
  longer = omega arith;
  kinds = λ x k g. g;
  kept = λ e i. in_front e s.demands (d ∷ []) i;
  told = λ x l. inl l;
  parts = λ x o i. not_parts x o s.demands d h i;
}

adds_literal : (at : ℕ) (k : Kind) (d : Demand) (s : Scene) → heads d ≡ false → IsTold (length s.kinds) (s.demands ++ d ∷ []) → Adds s (ask d (new_number at k s).1).1
adds_literal at k d s h t =
    let l = length-append s.kinds (k ∷ []) in
    record {
      longer = omega (arith, l);
      kinds = λ x j g. front_get s.kinds (k ∷ []) x j g;
      kept = λ e i. in_front e s.demands (d ∷ []) i;
      told = λ x m. by x (omega (arith, l, m)) (cases_lt x (length s.kinds));
      parts = λ x o i. not_parts x o s.demands d h i;
    } where
      by : (x : ℕ) → x < length s.kinds + 1 → (x < length s.kinds) ⊎ (length s.kinds ≤ x) → (x < length s.kinds) ⊎ IsTold x (s.demands ++ d ∷ [])
      by x m (inl l) = inl l
      by x m (inr l) = let e : length s.kinds ≡ x = omega (arith, l, m) in inr (subst (λ y. IsTold y (s.demands ++ d ∷ [])) e t)

adds_attr : (at : ℕ) (v : Attr) (s : Scene) → Adds s (with_attr at v s)
adds_attr at v s = let d = is_attr (length s.kinds) v in adds_literal at kind.Attr d s refl (inl (v, in_last s.demands d))

adds_type : (at : ℕ) (t : Ty) (s : Scene) → Adds s (with_type at t s)
adds_type at t s = let d = is_type (length s.kinds) t in adds_literal at kind.Ty d s refl (inr (t, in_last s.demands d))

-- ---- what is plain adds only these

module _ (f : List ℕ → Constrains) (calls : (n : List ℕ) (xs : List (Meant Expr)) (s : Scene) → Adds s ((f n).call xs s).1) where
  one_called : (x : Meant Expr) (n : Option (List ℕ)) (s : Scene) → Adds s (call_named f x n s).1
  one_called x None s = adds_nothing s s.names
  one_called x (Some n) s = calls n (x ∷ []) s

  pub all_called : (rs : List Ref) (x : Meant Expr) (s : Scene) → Adds s (call_refs f rs x s).1
  all_called [] x s = adds_nothing s s.names
  all_called (r ∷ rs) x s = let t = (call_named f x (ref_name r) s).1 in adds_both s t (call_refs f rs x t).1 (one_called x (ref_name r) s) (all_called rs x t)

  mutual
    of_expr : (e : Syntax) → IsPlain e → (s : Scene) → Adds s (expression f e s).1
    of_expr (expr at form) p s = of_form form p at s

    of_form : (form : ExprForm) → IsPlainForm form → (at : ℕ) (s : Scene) → Adds s (form_at f form at s).1
    of_form (name_expr n) p at s = adds_nothing s s.names
    of_form (call_expr n xs) p at s = adds_nothing s s.names
    of_form (declare_expr n rs) p at s = absurd p
    of_form (attr_expr l) p at s = adds_attr at _ s
    of_form (type_expr l) p at s = adds_type at _ s
    of_form (op_expr o) p at s = absurd p
    of_form (member_expr e k) p at s =
        let x = expression f e s in
        let d = stands (result (number_of x.0.is) k) in
        adds_both s x.1 (ask d x.1).1 (of_expr e p s) (adds_asked d x.1 refl)

  of_list : (es : Exprs) → ArePlain es → (s : Scene) → Adds s (expressions f es s).1
  of_list no_exprs p s = adds_nothing s s.names
  of_list (expr_then e es) p s = let x = expression f e s in adds_both s x.1 (expressions f es x.1).1 (of_expr e p.0 s) (of_list es p.1 x.1)

  of_alone : (e : Syntax) → IsPlainAlone e → (s : Scene) → Adds s (plain f e s).1
  of_alone (expr at (call_expr n es)) p s = let x = expressions f es s in adds_both s x.1 ((f n).call x.0 x.1).1 (of_list es p s) (calls n x.0 x.1)
  of_alone e p s = of_expr e p s

  of_statement : (t : Stmt) → IsPlainStatement t → (s : Scene) → Adds s (statement f t s).1
  of_statement (stmt at (let_stmt n rs None)) p s = absurd p
  of_statement (stmt at (let_stmt n rs (Some e))) p s =
      let x = expression f e s in
      let y = (let_value f rs (Some e) n.at s) in
      adds_both s y.1 (record y.1 { names = (n.text, y.0) ∷ y.1.names }) (adds_both s x.1 y.1 (of_expr e p s) (all_called rs x.0 x.1)) (adds_nothing y.1 ((n.text, y.0) ∷ y.1.names))
  of_statement (stmt at (plain_stmt e)) p s = of_alone e p s
  of_statement t p s = adds_nothing s s.names

  of_statements : (ss : List Stmt) → AllByRecursion IsPlainStatement ss → (s : Scene) → Adds s (for_each (statement f) ss s).1
  of_statements [] p s = adds_nothing s s.names
  of_statements (t ∷ ss) p s = let x = (statement f t s).1 in adds_both s x (for_each (statement f) ss x).1 (of_statement t p.0 s) (of_statements ss p.1 x)

  of_params : (ps : List Param) (xs : List (Meant Expr)) (s : Scene) → Adds s (call_params f ps xs s).1
  of_params [] xs s = adds_nothing s s.names
  of_params (p ∷ ps) [] s = adds_nothing s s.names
  of_params (p ∷ ps) (x ∷ xs) s = let t = (call_refs f p.refs x s).1 in adds_both s t (call_params f ps xs t).1 (all_called p.refs x s) (of_params ps xs t)

  of_body : (b : Body) → IsPlainBody b → (s : Scene) → Adds s (body_asks f b s).1
  of_body body.Absent p s = adds_nothing s s.names
  of_body (body.Braces ss end) p s = of_statements ss p s
  of_body (body.One t) p s = of_statement t p s
  of_body (body.Value e) p s = of_alone e p s

  of_inner : (c : CallDecl) (b : Body) → IsPlainBody b → (xs : List (Meant Expr)) (s : Scene)
      → Adds s (within (named_together (param_names c.params) xs) (λ t. body_asks f b (call_params f c.params xs t).1) s).1
  of_inner c b p xs s =
      let t : Scene = record s { names = named_together (param_names c.params) xs } in
      let x = (call_params f c.params xs t).1 in
      let y = (body_asks f b x).1 in
      adds_both s t (record y { names = s.names }) (adds_nothing s t.names) (adds_both t x (record y { names = s.names }) (of_params c.params xs t) (adds_both x y (record y { names = s.names }) (of_body b p x) (adds_nothing y s.names)))

  of_native : (o : Option Constraint) (xs : List (Meant Expr)) (s : Scene) → Adds s (ask_native o xs s).1
  of_native None xs s = adds_nothing s s.names
  of_native (Some c) xs s = adds_asked (asks.calls c (map (λ x. x.is) xs)) s refl

  of_call : (c : CallDecl) (b : Body) → IsPlainBody b → (xs : List (Meant Expr)) (s : Scene) → Adds s (call_constraint f c b xs s).1
  of_call c body.Absent p xs s = of_native (constraint_of c.name.text (map (λ x. x.kind) xs)) xs s
  of_call c (body.Braces ss end) p xs s = of_inner c (body.Braces ss end) p xs s
  of_call c (body.One t) p xs s = of_inner c (body.One t) p xs s
  of_call c (body.Value e) p xs s = of_inner c (body.Value e) p xs s

-- ---- calls of what is declared

-- Each of these, the last one first, is determined alone.
abbrev pub AreAlone : List Decl → Type 0
AreAlone [] = ⊤
AreAlone (d ∷ ds) = IsDeterminedAlone (own ds d) × AreAlone ds

pub calls_add : (ds : List Decl) → AreAlone ds → (n : List ℕ) (xs : List (Meant Expr)) (s : Scene) → Adds s ((constraints ds n).call xs s).1
calls_add [] a n xs s = adds_nothing s s.names
calls_add ((decl.Pattern p) ∷ ds) a n xs s = calls_add ds a.1 n xs s
calls_add ((decl.Rewrite c) ∷ ds) a n xs s = calls_add ds a.1 n xs s
calls_add ((decl.Constraint c) ∷ ds) a n xs s = by (bytes_eq c.name.text n) (calls_add ds a.1) where
  by : (b : Bool) → ((n : List ℕ) (xs : List (Meant Expr)) (s : Scene) → Adds s ((constraints ds n).call xs s).1) → Adds s ((constrains_if b (constraints ds) c n).call xs s).1
  by true go = of_call (constraints ds) go c c.body (alone_is_plain ds c a.0) xs s
  by false go = go n xs s

-- A call leaves the names as they are.
pub calls_keep_names : (ds : List Decl) (n : List ℕ) (xs : List (Meant Expr)) (s : Scene) → ((constraints ds n).call xs s).1.names ≡ s.names
calls_keep_names [] n xs s = refl
calls_keep_names ((decl.Pattern p) ∷ ds) n xs s = calls_keep_names ds n xs s
calls_keep_names ((decl.Rewrite c) ∷ ds) n xs s = calls_keep_names ds n xs s
calls_keep_names ((decl.Constraint c) ∷ ds) n xs s = by (bytes_eq c.name.text n) (calls_keep_names ds) where
  native : (o : Option Constraint) → (ask_native o xs s).1.names ≡ s.names
  native None = refl
  native (Some k) = refl

  of_body_names : (b : Body) → (call_constraint (constraints ds) c b xs s).1.names ≡ s.names
  of_body_names body.Absent = native (constraint_of c.name.text (map (λ x. x.kind) xs))
  of_body_names (body.Braces ss end) = refl
  of_body_names (body.One t) = refl
  of_body_names (body.Value e) = refl

  by : (b : Bool) → ((n : List ℕ) (xs : List (Meant Expr)) (s : Scene) → ((constraints ds n).call xs s).1.names ≡ s.names) → ((constrains_if b (constraints ds) c n).call xs s).1.names ≡ s.names
  by true go = of_body_names c.body
  by false go = go n xs s
