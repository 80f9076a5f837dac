-- A constraint that is determined alone has no operation expression and no variable without a value in its body.
use Rattle.std.proofs.Common.{◌≡◌, inl, inr, ℕ, zero, suc, ◌+◌, ◌≤◌, ◌<◌, List, [], ◌∷◌, length, Option, Some, None, length-append, arith}
use Rattle.std.specs.Prelude.{◌⊎◌, ⊤}
use Rattle.std.specs.List.{AllByRecursion, range_with_len}
use Rattle.pdll_syntax.specs.declared.stmt.Body.{Body}
use Rattle.pdll_syntax.specs.declared.stmt.Body.TheVariants as body
use Rattle.pdll_syntax.specs.declared.stmt.Param.{Param}
use Rattle.pdll_syntax.specs.declared.file.Decl.{Decl}
use Rattle.pdll_syntax.specs.declared.file.Decl.TheVariants as decl
use Rattle.pdll_syntax.specs.declared.file.CallDecl.{CallDecl}
use Rattle.pdll_syntax.specs.ExprTree.{Expr as Syntax, expr, ExprForm, name_expr, call_expr, declare_expr, attr_expr, type_expr, op_expr, member_expr, OpExpr, operation, Ref, Exprs, no_exprs, expr_then, Refs, refs, ref_list}
use Rattle.pdll_syntax.specs.StmtTree.{Stmt, stmt, let_stmt, plain_stmt}
use Rattle.native_set.specs.declared.native.Kind.{Kind}
use Rattle.rewrite_model.specs.Pattern.{Expr, the, result, stands}
use Rattle.rewrite_model.specs.Doing.{for_each}
use Rattle.rewrite_model.specs.Names.{Meant}
use Rattle.rewrite_model.specs.MatchPart.{Scene, empty, Constrains, number_of, new_variable, see_name, kind_of_refs, variable, expression, form_at, operation_at, operands_at, types_at, expressions, entries_of, type_of_refs, plain, let_value, statement}
use Rattle.rewrite_model.specs.Expanding.{constraints, call_params, body_asks, param_variables}
use Rattle.rewrite_model.specs.Determined.{IsIn, Determined, given_one, attr_told, type_told, part_of, type_of}
use Rattle.rewrite_model.specs.Own.{silent, own, IsDeterminedAlone}
use Rattle.rewrite_model.proofs.Reading.{with_variable, Keeping, all_called, of_expr, of_all, of_refs, of_operands, of_entries, of_types, of_statement, of_statements, of_params, of_plain}
use Rattle.rewrite_model.proofs.Apart.{IsTold, IsHead, told_last, head_last, IsUntold, untold_kept, IsApart, apart_kept, variable_untold, operation_untold}

-- ---- what numbers nothing but literals

abbrev mutual
  pub IsPlain : Syntax → Type 0
  IsPlain (expr at form) = IsPlainForm form

  pub IsPlainForm : ExprForm → Type 0
  IsPlainForm (name_expr n) = ⊤
  IsPlainForm (call_expr n xs) = ⊤
  IsPlainForm (declare_expr n rs) = ⊥
  IsPlainForm (attr_expr l) = ⊤
  IsPlainForm (type_expr l) = ⊤
  IsPlainForm (op_expr o) = ⊥
  IsPlainForm (member_expr e k) = IsPlain e

abbrev pub ArePlain : Exprs → Type 0
ArePlain no_exprs = ⊤
ArePlain (expr_then e es) = IsPlain e × ArePlain es

abbrev pub IsPlainAlone : Syntax → Type 0
IsPlainAlone (expr at (call_expr n es)) = ArePlain es
IsPlainAlone e = IsPlain e

abbrev pub IsPlainStatement : Stmt → Type 0
IsPlainStatement (stmt at (let_stmt n rs None)) = ⊥
IsPlainStatement (stmt at (let_stmt n rs (Some e))) = IsPlain e
IsPlainStatement (stmt at (plain_stmt e)) = IsPlainAlone e
IsPlainStatement s = ⊤

abbrev pub IsPlainBody : Body → Type 0
IsPlainBody body.Absent = ⊤
IsPlainBody (body.Braces ss end) = AllByRecursion IsPlainStatement ss
IsPlainBody (body.One s) = IsPlainStatement s
IsPlainBody (body.Value e) = IsPlainAlone e

-- ---- what else it numbers is of no literal

-- a number from this one on that no literal has
abbrev Found : ℕ → Scene → Type 0
Found n s = (x : ℕ) × (n ≤ x) × IsUntold x s

either : {A B C : Type 0} → (A → C) → (B → C) → A ⊎ B → C
either f g (inl a) = f a
either f g (inr b) = g b

module _ (constraint : List ℕ → Constrains) (n : ℕ) where
  abbrev f : List ℕ → Constrains
  f = silent constraint

  quiet : (P : Scene → Type 0) (m : List ℕ) (xs : List (Meant Expr)) (s : Scene) → P s → P ((f m).call xs s).1
  quiet P m xs s h = h

  keep : (x : ℕ) → Keeping (IsUntold x)
  keep = untold_kept

  a_variable : (at : ℕ) (rs : List Ref) (t : Option Expr) (s : Scene) → IsApart n s → Found n (variable f at rs t s).1
  a_variable at rs t s h =
      let w = kind_of_refs f rs in
      let x = length s.kinds in
      (x, h.enough, all_called (IsUntold x) (keep x) f (quiet (IsUntold x)) rs (record { kind = w.kind; is = the x }) (with_variable at w.kind w.name t s) (variable_untold n at w.kind w.name t s h))

  renamed : (s : Scene) (m : List ℕ) (x : Meant Expr) → Found n s → Found n (see_name m x s).1
  renamed s m x k = (k.0, k.1, record { within = k.2.within; untold = k.2.untold })

  apart : Keeping (IsApart n)
  apart = apart_kept n

  refs_apart : (rs : Refs) (s : Scene) → IsApart n s → IsApart n (type_of_refs f rs s).1
  refs_apart rs s h = of_refs (IsApart n) apart f (quiet (IsApart n)) rs s h

  an_operation : (o : OpExpr) (at : ℕ) (s : Scene) → IsApart n s → Found n (operation_at f o at s).1
  an_operation (operation m os es ts) at s h =
      let x = operands_at f os at s in
      let y = entries_of f es x.1 in
      let z = types_at f ts at y.1 in
      let a = of_operands (IsApart n) apart f (quiet (IsApart n)) os at s h in
      let b = of_entries (IsApart n) apart f (quiet (IsApart n)) es x.1 a in
      let c = of_types (IsApart n) apart f (quiet (IsApart n)) ts at y.1 b in
      (length z.1.kinds, c.enough, operation_untold n at m (record { operands = x.0; entries = y.0; types = z.0 }) z.1 c)

  mutual
    of_one : (e : Syntax) (s : Scene) → IsApart n s → IsPlain e ⊎ Found n (expression f e s).1
    of_one (expr at form) s h = of_form form at s h

    of_form : (form : ExprForm) (at : ℕ) (s : Scene) → IsApart n s → IsPlainForm form ⊎ Found n (form_at f form at s).1
    of_form (name_expr m) at s h = inl tt
    of_form (call_expr m xs) at s h = inl tt
    of_form (declare_expr m rs) at s h =
        let t = type_of_refs f rs s in
        let x = variable f at (ref_list rs) t.0 t.1 in
        inr (renamed x.1 m x.0 (a_variable at (ref_list rs) t.0 t.1 (refs_apart rs s h)))
    of_form (attr_expr l) at s h = inl tt
    of_form (type_expr l) at s h = inl tt
    of_form (op_expr o) at s h = inr (an_operation o at s h)
    of_form (member_expr e k) at s h =
        let x = expression f e s in
        either (λ p. inl p) (λ b. inr (b.0, b.1, (keep b.0).mention (result (number_of x.0.is) k) x.1 b.2)) (of_one e s h)

  -- what was found before stays
  found_all : (es : Exprs) (s : Scene) → Found n s → Found n (expressions f es s).1
  found_all es s k = (k.0, k.1, of_all (IsUntold k.0) (keep k.0) f (quiet (IsUntold k.0)) es s k.2)

  next_apart : (e : Syntax) (s : Scene) → IsApart n s → IsApart n (expression f e s).1
  next_apart e s h = of_expr (IsApart n) apart f (quiet (IsApart n)) e s h

  of_list : (es : Exprs) (s : Scene) → IsApart n s → ArePlain es ⊎ Found n (expressions f es s).1
  of_list no_exprs s h = inl tt
  of_list (expr_then e es) s h =
      let x = expression f e s in
      either (λ p. either (λ ps. inl (p, ps)) (λ b. inr b) (of_list es x.1 (next_apart e s h))) (λ b. inr (found_all es x.1 b)) (of_one e s h)

  of_alone : (e : Syntax) (s : Scene) → IsApart n s → IsPlainAlone e ⊎ Found n (plain f e s).1
  of_alone (expr at (call_expr m es)) s h = of_list es s h
  of_alone e s h = of_one e s h

  of_stmt : (t : Stmt) (s : Scene) → IsApart n s → IsPlainStatement t ⊎ Found n (statement f t s).1
  of_stmt (stmt at (let_stmt m rs None)) s h =
      let t = type_of_refs f (refs rs) s in
      let x = variable f m.at rs t.0 t.1 in
      inr (renamed x.1 m.text x.0 (a_variable m.at rs t.0 t.1 (refs_apart (refs rs) s h)))
  of_stmt (stmt at (let_stmt m rs (Some e))) s h =
      let x = expression f e s in
      let y = let_value f rs (Some e) m.at s in
      either (λ p. inl p) (λ b. inr (renamed y.1 m.text y.0 (b.0, b.1, all_called (IsUntold b.0) (keep b.0) f (quiet (IsUntold b.0)) rs x.0 x.1 b.2))) (of_one e s h)
  of_stmt (stmt at (plain_stmt e)) s h = of_alone e s h
  of_stmt t s h = inl tt

  of_stmts : (ss : List Stmt) (s : Scene) → IsApart n s → AllByRecursion IsPlainStatement ss ⊎ Found n (for_each (statement f) ss s).1
  of_stmts [] s h = inl tt
  of_stmts (t ∷ ss) s h =
      let x = (statement f t s).1 in
      either (λ p. either (λ ps. inl (p, ps)) (λ b. inr b) (of_stmts ss x (of_statement (IsApart n) apart f (quiet (IsApart n)) t s h)))
      (λ b. inr (b.0, b.1, of_statements (IsUntold b.0) (keep b.0) f (quiet (IsUntold b.0)) ss x b.2)) (of_stmt t s h)

  of_body : (b : Body) (s : Scene) → IsApart n s → IsPlainBody b ⊎ Found n (body_asks f b s).1
  of_body body.Absent s h = inl tt
  of_body (body.Braces ss end) s h = of_stmts ss s h
  of_body (body.One t) s h = of_stmt t s h
  of_body (body.Value e) s h = of_alone e s h

-- the body of a constraint keeps them apart
module _ (constraint : List ℕ → Constrains) (n : ℕ) where
  body_apart : (b : Body) (s : Scene) → IsApart n s → IsApart n (body_asks (silent constraint) b s).1
  body_apart body.Absent s h = h
  body_apart (body.Braces ss end) s h = of_statements (IsApart n) (apart_kept n) (silent constraint) (quiet constraint n (IsApart n)) ss s h
  body_apart (body.One t) s h = of_statement (IsApart n) (apart_kept n) (silent constraint) (quiet constraint n (IsApart n)) t s h
  body_apart (body.Value e) s h = of_plain (IsApart n) (apart_kept n) (silent constraint) (quiet constraint n (IsApart n)) e s h

-- ---- parameters

-- no literal, and nothing is asked for parts or a type
record IsBare (s : Scene) : Type 0 where
  told : (x : ℕ) → IsTold x s.demands → ⊥
  headed : (x : ℕ) → IsHead x s.demands → ⊥

bare_variable : (at : ℕ) (k : Kind) (s : Scene) → IsBare s → IsBare (new_variable at k s).1
bare_variable at k s h = record {
  told = λ x t. either (h.told x) (λ p. absurd (cc)) (told_last x s.demands (stands (the (length s.kinds))) t);
  headed = λ x t. either (h.headed x) (λ p. absurd (cc)) (head_last x s.demands (stands (the (length s.kinds))) t);
}

bare_params : (f : List ℕ → Constrains) (ps : List Param) (s : Scene) → IsBare s
    → IsBare (param_variables f ps s).1 × (length (param_variables f ps s).1.kinds ≡ length s.kinds + length ps)
bare_params f [] s h = (h, omega arith)
bare_params f (p ∷ ps) s h =
    let k = (kind_of_refs f p.refs).kind in
    let x = new_variable p.name.at k s in
    let a = bare_variable p.name.at k s h in
    let b = bare_params f ps (see_name p.name.text x.0 x.1).1 (record { told = a.told; headed = a.headed }) in
    let l = length-append s.kinds (k ∷ []) in
    let m = b.1 in
    (b.0, omega (arith, l, m))

in_range : (a n x : ℕ) → IsIn x (range_with_len a n) → x < a + n
in_range a zero x i = elim i [ ]
in_range a (suc n) x (inl e) = omega (arith, e)
in_range a (suc n) x (inr i) = let l = in_range (a + 1) n x i in omega (arith, l)

-- what is determined there is a parameter or a literal
one_of_two : (n : ℕ) (s : Scene) → IsApart n s → (x : ℕ) → Determined (range_with_len 0 n) s.demands x → (x < n) ⊎ IsTold x s.demands
one_of_two n s h x (given_one _ i) = let l = in_range 0 n x i in inl (omega (arith, l))
one_of_two n s h x (attr_told _ v i) = inr (inl (v, i))
one_of_two n s h x (type_told _ t i) = inr (inr (t, i))
one_of_two n s h y (part_of x _ o e i d p q) =
    let a = h.from_on x (inl (o, i)) in
    absurd (either (λ l. omega (arith, a, l)) (h.untold x (inl (o, i))).untold (one_of_two n s h x d))
one_of_two n s h y (type_of x _ e i d q) =
    let a = h.from_on x (inr (e, i)) in
    absurd (either (λ l. omega (arith, a, l)) (h.untold x (inr (e, i))).untold (one_of_two n s h x d))

none_found : (n : ℕ) (s : Scene) → IsApart n s → ((x : ℕ) → x < length s.kinds → Determined (range_with_len 0 n) s.demands x) → Found n s → ⊥
none_found n s h all k =
    let l = k.1 in
    either (λ m. omega (arith, l, m)) k.2.untold (one_of_two n s h k.0 (all k.0 k.2.within))

pub alone_is_plain : (earlier : List Decl) (c : CallDecl) → IsDeterminedAlone (own earlier (decl.Constraint c)) → IsPlainBody c.body
unfolding own
alone_is_plain earlier c all =
    let f = silent (constraints earlier) in
    let n = length c.params in
    let x = param_variables f c.params empty in
    let y = call_params f c.params x.0 x.1 in
    let b = bare_params f c.params empty (record { told = λ x t. none_told x t; headed = λ x t. none_headed x t }) in
    let m = b.1 in
    let a : IsApart n x.1 = record { enough = omega (arith, m); told = λ x t. absurd (b.0.told x t); from_on = λ x i. absurd (b.0.headed x i); untold = λ x i. absurd (b.0.headed x i) } in
    let h : IsApart n y.1 = of_params (IsApart n) (apart_kept n) f (quiet (constraints earlier) n (IsApart n)) c.params x.0 x.1 a in
    either (λ p. p) (λ k. absurd (none_found n (body_asks f c.body y.1).1 (body_apart (constraints earlier) n c.body y.1 h) all k)) (of_body (constraints earlier) n c.body y.1 h) where
      none_told : (x : ℕ) → IsTold x [] → ⊥
      none_told x (inl i) = elim i.1 [ ]
      none_told x (inr i) = elim i.1 [ ]

      none_headed : (x : ℕ) → IsHead x [] → ⊥
      none_headed x (inl i) = elim i.1 [ ]
      none_headed x (inr i) = elim i.1 [ ]
