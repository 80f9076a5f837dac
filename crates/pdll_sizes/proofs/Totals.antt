-- The lists in a tree have the sizes of their items together, and numbers behind an expression add to its size.
use Rattle.std.proofs.Common.{◌≡◌, ℕ, suc, ◌+◌, List, [], ◌∷◌, length, refl, ap, ◌∙◌, arith}
use Rattle.pdll_syntax.specs.ExprTree.{Expr, expr, ExprForm, member_expr, exprs, Entry, entries, Ref, refs}
use Rattle.pdll_syntax.specs.ExprView.{with_members}
use Rattle.pdll_syntax.specs.StmtTree.{Stmt, stmts}
use Rattle.pdll_syntax.specs.declared.stmt.Param.{Param}
use Rattle.rewrite_model.specs.Size.{Called, ◌and◌, one_expression, expr_size, form_size, exprs_size, entry_size, entries_size, ref_size, refs_size, stmt_size, stmts_size, params_size}
use Rattle.rewrite_model.specs.Size.{Size as Count}
use Rattle.pdll_sizes.specs.Members.{total, just_expressions}

pub exprs_total : (c : Called) (xs : List Expr) → total (expr_size c) xs ≡ exprs_size c (exprs xs)
exprs_total c [] = refl
exprs_total c (x ∷ xs) = ap (λ s. expr_size c x and s) (exprs_total c xs)

pub entries_total : (c : Called) (es : List Entry) → total (entry_size c) es ≡ entries_size c (entries es)
entries_total c [] = refl
entries_total c (e ∷ es) = ap (λ s. entry_size c e and s) (entries_total c es)

pub refs_total : (c : Called) (rs : List Ref) → total (ref_size c) rs ≡ refs_size c (refs rs)
refs_total c [] = refl
refs_total c (r ∷ rs) = ap (λ s. ref_size c r and s) (refs_total c rs)

pub stmts_total : (c : Called) (ss : List Stmt) → total (stmt_size c) ss ≡ stmts_size c (stmts ss)
stmts_total c [] = refl
stmts_total c (s ∷ ss) = ap (λ t. stmt_size c s and t) (stmts_total c ss)

pub params_total : (c : Called) (ps : List Param) → total (λ p. refs_size c (refs p.refs)) ps ≡ params_size c ps
params_total c [] = refl
params_total c (p ∷ ps) = ap (λ t. refs_size c (refs p.refs) and t) (params_total c ps)

-- the numbers behind an expression, each one more expression, and what stands before them
pub members_behind : (c : Called) (at : ℕ) (f : ExprForm) (ks : List ℕ) → just_expressions (length ks) and form_size c f ≡ form_size c (with_members at f ks)
members_behind c at f [] = λ i. record {
  statements = let h : 0 + (form_size c f).statements ≡ (form_size c f).statements = omega arith in h i;
  operations = let h : 0 + (form_size c f).operations ≡ (form_size c f).operations = omega arith in h i;
  expressions = let h : 0 + (form_size c f).expressions ≡ (form_size c f).expressions = omega arith in h i;
}
members_behind c at f (k ∷ ks) = one_before (length ks) (form_size c f) ∙ members_behind c at (member_expr (expr at f) k) ks
  where
    one_before : (n : ℕ) (x : Count) → just_expressions (suc n) and x ≡ just_expressions n and (one_expression and x)
    one_before n x = λ i. record {
      statements = let h : 0 + x.statements ≡ 0 + (0 + x.statements) = omega arith in h i;
      operations = let h : 0 + x.operations ≡ 0 + (0 + x.operations) = omega arith in h i;
      expressions = let h : suc n + x.expressions ≡ n + (1 + x.expressions) = omega arith in h i;
    }
