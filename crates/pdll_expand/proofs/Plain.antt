-- Expressions that stand alone, and the statements of a pattern.
use Rattle.std.proofs.Common.{◌≡◌, ℕ, zero, suc, ◌<◌, ◌≤◌, List, [], ◌∷◌, length, get_or, take, refl, ap, arith}
use Rattle.pdll_syntax.specs.ExprTree.{Expr, expr, ExprForm, call_expr, member_expr, exprs}
use Rattle.pdll_syntax.specs.ExprView.{expr_form, with_members}
use Rattle.pdll_syntax.specs.StmtTree.{Stmt}
use Rattle.pdll_syntax.specs.declared.expr.ExprForm.{ExprForm as ExprNode}
use Rattle.pdll_syntax.specs.declared.expr.ExprForm.TheVariants as e
use Rattle.rewrite_model.specs.Doing.{◌>>◌}
use Rattle.rewrite_model.specs.MatchPart.{Constrains, call, plain, statement}
use Rattle.rewrite_model.specs.Expanding.{read_match, last_root}
use Rattle.pdll_expand.specs.Reading.{alone_read, statements}

plain_more : (q : List ℕ → Constrains) (at : ℕ) (x : Expr) (k : ℕ) (ks : List ℕ)
    → alone_read q (expr at (with_members at (member_expr x k) ks)) ≡ plain q (expr at (with_members at (member_expr x k) ks))
plain_more q at x k [] = refl
plain_more q at x k (j ∷ ks) = plain_more q at (expr at (member_expr x k)) j ks

pub plain_members : (q : List ℕ → Constrains) (at : ℕ) (form : ExprForm) (ks : List ℕ) → 0 < length ks
    → alone_read q (expr at (with_members at form ks)) ≡ plain q (expr at (with_members at form ks))
plain_members q at form [] h = absurd (omega arith)
plain_members q at form (k ∷ ks) h = plain_more q at (expr at form) k ks

plain_form : (q : List ℕ → Constrains) (at : ℕ) (form : ExprNode) → ((n : List ℕ) (xs : List Expr) → form ≡ e.Call n xs → ⊥)
    → alone_read q (expr at (expr_form form)) ≡ plain q (expr at (expr_form form))
plain_form q at (e.Name n) other = refl
plain_form q at (e.Call n xs) other = absurd (other n xs refl)
plain_form q at (e.Declare n rs) other = refl
plain_form q at (e.AttrLit l) other = refl
plain_form q at (e.TyLit l) other = refl
plain_form q at (e.Op o) other = refl

pub plain_other : (q : List ℕ → Constrains) (at : ℕ) (form : ExprNode) (ks : List ℕ) → length ks ≤ 0 → ((n : List ℕ) (xs : List Expr) → form ≡ e.Call n xs → ⊥)
    → alone_read q (expr at (with_members at (expr_form form) ks)) ≡ plain q (expr at (with_members at (expr_form form) ks))
plain_other q at form [] h other = plain_form q at form other
plain_other q at form (k ∷ ks) h other = absurd (omega arith)

pub plain_call : (q : List ℕ → Constrains) (at : ℕ) (n : List ℕ) (xs : List Expr) (ks : List ℕ) → length ks ≤ 0
    → call q n (exprs xs) ≡ plain q (expr at (with_members at (call_expr n (exprs xs)) ks))
plain_call q at n xs [] h = refl
plain_call q at n xs (k ∷ ks) h = absurd (omega arith)

-- all statements but the last, and that one
pub match_is : (q : List ℕ → Constrains) (ss : List Stmt) (n : ℕ) (s : Stmt) → suc n ≡ length ss → s ≡ get_or ss n s
    → (statements q (take n ss) >> last_root q s) ≡ read_match q ss
match_is q [] n s h is = absurd (omega arith)
match_is q (x ∷ []) zero s h is = ap (last_root q) is
match_is q (x ∷ []) (suc n) s h is = absurd (omega arith)
match_is q (x ∷ y ∷ ss) zero s h is = absurd (omega arith)
match_is q (x ∷ y ∷ ss) (suc n) s h is = ap (λ w. statement q x >> w) (match_is q (y ∷ ss) n s (omega arith) is)
