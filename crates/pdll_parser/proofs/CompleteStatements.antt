-- Statements that are spelled are read.
use Rattle.std.proofs.Common.{◌≡◌, ◌≢◌, ℕ, zero, suc, ◌<◌, true, List, [], ◌∷◌, ◌++◌, refl, ap, sym, subst, ◌∙◌, arith, Ok, Option, Some, None}
use Rattle.pdll_syntax.specs.declared.name.Name.{Name}
use Rattle.pdll_syntax.specs.declared.stmt.Values.{Values}
use Rattle.pdll_syntax.specs.declared.stmt.Values.TheVariants as values
use Rattle.pdll_syntax.specs.ExprTree.{Expr, Ref, exprs, exprs_back, refs, refs_back, maybe_expr, MaybeExpr, no_expr, some_expr}
use Rattle.pdll_syntax.specs.StmtTree.{Stmt, stmt, StmtForm, let_stmt, erase_stmt, return_stmt, replace_stmt, rewrite_stmt, plain_stmt, Stmts, no_stmts, stmt_then, stmts, stmt_list, stmts_back}
use Rattle.pdll_parser.specs.declared.terminal.Terminal.{Terminal}
use Rattle.pdll_parser.specs.declared.terminal.Terminal.TheVariants as t
use Rattle.pdll_parser.specs.Terminals.{is_name}
use Rattle.pdll_parser.specs.Place.{Place, terminal, start, left}
use Rattle.pdll_parser.specs.Input.{Parser, all_up_to}
use Rattle.pdll_parser.specs.Tokens.{Tok, InBrackets}
use Rattle.pdll_parser.specs.Expressions.{Rules, room_of, expression, references, arguments, maybe_value}
use Rattle.pdll_parser.specs.Statements.{declared_name, maybe_references, braces, values_by, new_values, a_let, a_replace, a_rewrite, statement_by, statement_form, a_statement, statement, inside_of}
use Rattle.pdll_parser.specs.Grammar.{IsExpr, IsMaybeValue, AreMaybeRefs, AreValues, IsStmt, AreStmts}
use Rattle.pdll_parser.proofs.CompleteSteps.{seen, unseen, after_it, after_none, expects, tok_moves, Takes, Passes, bracket_opens}
use Rattle.pdll_parser.proofs.CompleteLists.{ManyRead, many_read}
use Rattle.pdll_parser.proofs.CompleteLeaves.{declared_name_read}
use Rattle.pdll_parser.proofs.CompletePrimaries.{ends_expression, expression_ends, differ}
use Rattle.pdll_parser.proofs.CompleteExpressions.{ends_entry, expr_chain, expr_read, exprs_read, arguments_read, value_read, refs_read}

-- an expression begins with a name
pub expr_begins : (d : ℕ) (x : Expr) (s r : Place) → IsExpr d s x r → ends_expression (terminal r) ≡ true → is_name (terminal s) ≡ true
expr_begins d x s r is f = let c = expr_chain d x s r is (expression_ends (terminal r) f) in c.begins

-- ---- one step of a rule

no_references : (room : Option Rules) (s : Place) → terminal s ≢ t.Colon → maybe_references room s ≡ Ok ([], s)
unfolding maybe_references
no_references room s h = rw (unseen t.Colon s h, after_none t.Colon s h) refl

some_references : (room : Option Rules) (s s1 r : Place) (xs : List Ref) → Tok t.Colon s s1 → references room s1 ≡ Ok (xs, r) → maybe_references room s ≡ Ok (xs, r)
unfolding maybe_references
some_references room s s1 r xs h e = rw (seen t.Colon s h.kind, after_it t.Colon s s1 h) e

-- refs of a variable, where they are written
pub maybe_refs_read : (d : ℕ) (rs : List Ref) (s r : Place) → AreMaybeRefs d s rs r → terminal r ≢ t.Less → terminal r ≢ t.Colon → Passes (maybe_references (room_of d)) s rs r
maybe_refs_read d [] s r h f g = record { reads = no_references (room_of d) s (λ k. g (ap terminal (sym h) ∙ k)) ∙ (λ i. Ok ([], h i)); moves = omega (arith, ap left h) }
maybe_refs_read d (x ∷ xs) s r (s1, colon, is) f g =
    let found = refs_read d (refs (x ∷ xs)) s1 r is f in
    record {
      reads = some_references (room_of d) s s1 r (x ∷ xs) colon (found.reads ∙ (λ i. Ok (refs_back (x ∷ xs) i, r)));
      moves = omega (arith, found.moves, tok_moves t.Colon s s1 (λ e. cc) (λ e. cc) colon);
    }

-- ---- values

module _ (room : Option Rules) (inside : Option (Parser Stmt)) where
  by_name : (s r : Place) (x : Expr) (k : Terminal) → is_name k ≡ true → expression room s ≡ Ok (x, r) → values_by room inside k s ≡ Ok (values.One x, r)
  by_name s r x t.LeftParen h e = absurd (cc)
  by_name s r x k h e = rw e refl

  one_value : (s r : Place) (x : Expr) → is_name (terminal s) ≡ true → expression room s ≡ Ok (x, r) → new_values room inside s ≡ Ok (values.One x, r)
  unfolding new_values
  one_value s r x h e = by_name s r x (terminal s) h e

  several_values : (s r : Place) (xs : List Expr) → terminal s ≡ t.LeftParen → arguments room s ≡ Ok (xs, r) → new_values room inside s ≡ Ok (values.Several xs, r)
  unfolding new_values
  several_values s r xs h e = rw (h, e) refl

  -- ---- forms

  form_let : (s s1 s2 s3 r : Place) (n : Name) (rs : List Ref) (o : Option Expr) → Tok t.Let s s1 → declared_name s1 ≡ Ok (n, s2) → maybe_references room s2 ≡ Ok (rs, s3)
      → maybe_value (expression room) s3 ≡ Ok (o, r) → statement_form room inside s ≡ Ok (let_stmt n rs o, r)
  unfolding statement_form a_let
  form_let s s1 s2 s3 r n rs o h a b c = rw (h.kind, h.rest, a, b, c) refl

  form_erase : (s s1 r : Place) (x : Expr) → Tok t.Erase s s1 → expression room s1 ≡ Ok (x, r) → statement_form room inside s ≡ Ok (erase_stmt x, r)
  unfolding statement_form
  form_erase s s1 r x h e = rw (h.kind, h.rest, e) refl

  form_return : (s s1 r : Place) (x : Expr) → Tok t.Return s s1 → expression room s1 ≡ Ok (x, r) → statement_form room inside s ≡ Ok (return_stmt x, r)
  unfolding statement_form
  form_return s s1 r x h e = rw (h.kind, h.rest, e) refl

  form_replace : (s s1 s2 s3 r : Place) (x : Expr) (v : Values) → Tok t.Replace s s1 → expression room s1 ≡ Ok (x, s2) → Tok t.With s2 s3 → new_values room inside s3 ≡ Ok (v, r)
      → statement_form room inside s ≡ Ok (replace_stmt x v, r)
  unfolding statement_form a_replace
  form_replace s s1 s2 s3 r x v h e k f = rw (h.kind, h.rest, e, expects t.With s2 s3 k, f) refl

  form_rewrite : (s s1 s2 s3 r : Place) (x : Expr) (found : List Stmt) (end : ℕ) → Tok t.RewriteWith s s1 → expression room s1 ≡ Ok (x, s2) → Tok t.With s2 s3 → braces inside s3 ≡ Ok ((found, end), r)
      → statement_form room inside s ≡ Ok (rewrite_stmt x (stmts found) end, r)
  unfolding statement_form a_rewrite
  form_rewrite s s1 s2 s3 r x found end h e k f = rw (h.kind, h.rest, e, expects t.With s2 s3 k, f) refl

  plain_by : (s r : Place) (x : Expr) (k : Terminal) → is_name k ≡ true → expression room s ≡ Ok (x, r) → statement_by room inside k s ≡ Ok (plain_stmt x, r)
  plain_by s r x t.Let h e = absurd (cc)
  plain_by s r x t.Erase h e = absurd (cc)
  plain_by s r x t.Return h e = absurd (cc)
  plain_by s r x t.Replace h e = absurd (cc)
  plain_by s r x t.RewriteWith h e = absurd (cc)
  plain_by s r x k h e = rw e refl

  form_plain : (s r : Place) (x : Expr) → is_name (terminal s) ≡ true → expression room s ≡ Ok (x, r) → statement_form room inside s ≡ Ok (plain_stmt x, r)
  unfolding statement_form
  form_plain s r x h e = plain_by s r x (terminal s) h e

  whole_statement : (s s1 r : Place) (form : StmtForm) → statement_form room inside s ≡ Ok (form, s1) → Tok t.Semicolon s1 r → a_statement room inside s ≡ Ok (stmt (start s) form, r)
  unfolding a_statement
  whole_statement s s1 r form e h = rw (e, expects t.Semicolon s1 r h) refl

pub statement_is : (d : ℕ) → statement d ≡ a_statement (room_of d) (inside_of d)
statement_is zero = refl
statement_is (suc d) = refl

-- ---- statements in braces

braces_step : (e : ℕ) (xs : List Stmt) (s s1 s2 r : Place) → Tok t.LeftBrace s s1 → all_up_to t.RightBrace (λ before. statement e) s1 ≡ Ok (xs, s2) → Tok t.RightBrace s2 r
    → braces (inside_of (suc e)) s ≡ Ok ((xs, start s2), r)
unfolding braces
braces_step e xs s s1 s2 r h is k = rw (seen t.LeftBrace s h.kind, h.rest, is, expects t.RightBrace s2 r k) refl

braces_by : (d : ℕ) (xs : List Stmt) (end : ℕ) (s r : Place) (Inside : ℕ → Place → Place → Type 0) → ((e : ℕ) (u v : Place) → Inside e u v → ManyRead t.RightBrace (λ before. statement e) [] u xs v)
    → InBrackets t.LeftBrace t.RightBrace (λ e u v. Inside e u v × (end ≡ start v)) d s r → Takes (braces (inside_of d)) s (xs, end) r
braces_by zero xs end s r Inside reads h = absurd h
braces_by (suc e) xs end s r Inside reads (s1, s2, opens, (is, place), closes) =
    let found = many_read t.RightBrace (λ before. statement e) xs s1 s2 (reads e s1 s2 is) closes.kind in
    record {
      reads = braces_step e xs s s1 s2 r opens found.reads closes ∙ (λ i. Ok ((xs, sym place i), r));
      moves = omega (arith, found.moves, tok_moves t.LeftBrace s s1 (λ e. cc) (λ e. cc) opens, tok_moves t.RightBrace s2 r (λ e. cc) (λ e. cc) closes);
    }

-- ---- the rules

pub stmts_again : (xs : Stmts) → stmts (stmt_list xs) ≡ xs
stmts_again no_stmts = refl
stmts_again (stmt_then x xs) = ap (λ ys. stmt_then x ys) (stmts_again xs)

same_option : (a b : Option Expr) → maybe_expr a ≡ maybe_expr b → a ≡ b
same_option None None h = refl
same_option (Some x) (Some y) h = let same : x ≡ y = cc in ap Some same
same_option None (Some y) h = absurd (cc)
same_option (Some x) None h = absurd (cc)

value_begins : (d : ℕ) (v : MaybeExpr) (s r : Place) → IsMaybeValue d s v r → terminal r ≡ t.Semicolon → (terminal s ≢ t.Less) × (terminal s ≢ t.Colon)
value_begins d no_expr s r h f = let is = ap terminal h ∙ f in (λ k. cc, λ k. cc)
value_begins d (some_expr x) s r (s1, equal, is) f = let begins = equal.kind in (λ k. cc, λ k. cc)

values_read : (d : ℕ) (v : Values) (s r : Place) → AreValues d s v r → terminal r ≡ t.Semicolon → Takes (new_values (room_of d) (inside_of d)) s v r
values_read d (values.One x) s r is f =
    let one = expr_read d x s r is (ap ends_expression f) in
    record { reads = one_value (room_of d) (inside_of d) s r x (expr_begins d x s r is (ap ends_expression f)) one.reads; moves = one.moves }
values_read d (values.Several xs) s r h f =
    let found = arguments_read d s r (exprs xs) (λ e u v is closes. exprs_read e (exprs xs) u v is closes) h in
    record {
      reads = several_values (room_of d) (inside_of d) s r xs (bracket_opens t.LeftParen t.RightParen _ d s r h) (found.reads ∙ (λ i. Ok (exprs_back xs i, r)));
      moves = found.moves;
    }

-- A rule reads this, and doesn't begin with the mark that ends statements.
pub record Stands (p : Parser Stmt) (s : Place) (x : Stmt) (r : Place) : Type 0 where
  pub takes : Takes p s x r
  pub begins : terminal s ≢ t.RightBrace

record FormStands (p : Parser StmtForm) (s : Place) (x : StmtForm) (r : Place) : Type 0 where
  pub reads : p s ≡ Ok (x, r)
  pub moves : left r < left s
  pub begins : terminal s ≢ t.RightBrace

stands : (d : ℕ) (s s1 r : Place) (at : ℕ) (form : StmtForm) → at ≡ start s → FormStands (statement_form (room_of d) (inside_of d)) s form s1 → Tok t.Semicolon s1 r → Stands (statement d) s (stmt at form) r
stands d s s1 r at form place is ends = record {
  takes = record {
    reads = ap (λ p. p s) (statement_is d) ∙ (whole_statement (room_of d) (inside_of d) s s1 r form is.reads ends ∙ (λ i. Ok (stmt (sym place i) form, r)));
    moves = omega (arith, is.moves, tok_moves t.Semicolon s1 r (λ e. cc) (λ e. cc) ends);
  };
  begins = is.begins;
}

mutual
  pub stmt_read : (d : ℕ) (x : Stmt) (s r : Place) → IsStmt d s x r → Stands (statement d) s x r
  stmt_read d (stmt at (let_stmt n rs o)) s r (s1, place, (u1, u2, u3, tok, name, refs_are, value), ends) =
      let begins = value_begins d (maybe_expr o) u3 s1 value ends.kind in
      let opens = tok.kind in
      let a = declared_name_read u1 u2 n name in
      let b = maybe_refs_read d rs u2 u3 refs_are begins.0 begins.1 in
      let v = value_read d (maybe_expr o) u3 s1 value (ap ends_entry ends.kind) in
      stands d s s1 r at (let_stmt n rs o) place (record {
        reads = form_let (room_of d) (inside_of d) s u1 u2 u3 s1 n rs v.0 tok a.reads b.reads v.2.reads ∙ (λ i. Ok (let_stmt n rs (same_option v.0 o v.1 i), s1));
        moves = omega (arith, a.moves, b.moves, v.2.moves, tok_moves t.Let s u1 (λ e. cc) (λ e. cc) tok);
        begins = λ k. cc;
      }) ends
  stmt_read d (stmt at (erase_stmt x)) s r (s1, place, (u1, tok, is), ends) =
      let opens = tok.kind in
      let a = expr_read d x u1 s1 is (ap ends_expression ends.kind) in
      stands d s s1 r at (erase_stmt x) place (record {
        reads = form_erase (room_of d) (inside_of d) s u1 s1 x tok a.reads;
        moves = omega (arith, a.moves, tok_moves t.Erase s u1 (λ e. cc) (λ e. cc) tok);
        begins = λ k. cc;
      }) ends
  stmt_read d (stmt at (return_stmt x)) s r (s1, place, (u1, tok, is), ends) =
      let opens = tok.kind in
      let a = expr_read d x u1 s1 is (ap ends_expression ends.kind) in
      stands d s s1 r at (return_stmt x) place (record {
        reads = form_return (room_of d) (inside_of d) s u1 s1 x tok a.reads;
        moves = omega (arith, a.moves, tok_moves t.Return s u1 (λ e. cc) (λ e. cc) tok);
        begins = λ k. cc;
      }) ends
  stmt_read d (stmt at (replace_stmt x v)) s r (s1, place, (u1, u2, u3, tok, is, with_is, new), ends) =
      let opens = tok.kind in
      let a = expr_read d x u1 u2 is (ap ends_expression with_is.kind) in
      let b = values_read d v u3 s1 new ends.kind in
      stands d s s1 r at (replace_stmt x v) place (record {
        reads = form_replace (room_of d) (inside_of d) s u1 u2 u3 s1 x v tok a.reads with_is b.reads;
        moves = omega (arith, a.moves, b.moves, tok_moves t.Replace s u1 (λ e. cc) (λ e. cc) tok, tok_moves t.With u2 u3 (λ e. cc) (λ e. cc) with_is);
        begins = λ k. cc;
      }) ends
  stmt_read d (stmt at (rewrite_stmt x body end)) s r (s1, place, (u1, u2, u3, tok, is, with_is, inside), ends) =
      let opens = tok.kind in
      let a = expr_read d x u1 u2 is (ap ends_expression with_is.kind) in
      let b = braces_by d (stmt_list body) end u3 s1 (λ e u v. AreStmts e u body v) (λ e u v are. stmts_read e body [] u v are) inside in
      stands d s s1 r at (rewrite_stmt x body end) place (record {
        reads = form_rewrite (room_of d) (inside_of d) s u1 u2 u3 s1 x (stmt_list body) end tok a.reads with_is b.reads ∙ (λ i. Ok (rewrite_stmt x (stmts_again body i) end, s1));
        moves = omega (arith, a.moves, b.moves, tok_moves t.RewriteWith s u1 (λ e. cc) (λ e. cc) tok, tok_moves t.With u2 u3 (λ e. cc) (λ e. cc) with_is);
        begins = λ k. cc;
      }) ends
  stmt_read d (stmt at (plain_stmt x)) s r (s1, place, is, ends) =
      let a = expr_read d x s s1 is (ap ends_expression ends.kind) in
      let name = expr_begins d x s s1 is (ap ends_expression ends.kind) in
      stands d s s1 r at (plain_stmt x) place (record {
        reads = form_plain (room_of d) (inside_of d) s s1 x name a.reads;
        moves = a.moves;
        begins = differ is_name (terminal s) t.RightBrace name refl;
      }) ends

  pub stmts_read : (e : ℕ) (xs : Stmts) (found : List Stmt) (s r : Place) → AreStmts e s xs r → ManyRead t.RightBrace (λ before. statement e) found s (stmt_list xs) r
  stmts_read e no_stmts found s r h = h
  stmts_read e (stmt_then x xs) found s r (s1, is, more) =
      let one = stmt_read e x s s1 is in
      (s1, one.begins, one.takes, stmts_read e xs (found ++ x ∷ []) s1 r more)

-- statements in braces
pub braces_read : (d : ℕ) (xs : List Stmt) (end : ℕ) (s r : Place) → InBrackets t.LeftBrace t.RightBrace (λ e u v. AreStmts e u (stmts xs) v × (end ≡ start v)) d s r → Takes (braces (inside_of d)) s (xs, end) r
braces_read d xs end s r h =
    subst (λ ys. Takes (braces (inside_of d)) s (ys, end) r) (stmts_back xs)
    (braces_by d (stmt_list (stmts xs)) end s r (λ e u v. AreStmts e u (stmts xs) v) (λ e u v are. stmts_read e (stmts xs) [] u v are) h)
