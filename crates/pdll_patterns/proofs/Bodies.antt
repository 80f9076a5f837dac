-- Expressions, statements and bodies of a rewrite.
use Rattle.std.proofs.Common.{◌≡◌, ℕ, List, [], ◌∷◌, Option, Some, None, Result, Ok, Err, refl}
use Rattle.pdll_syntax.specs.ExprTree.{Expr, Ref, expr, ExprForm, member_expr}
use Rattle.pdll_syntax.specs.ExprView.{with_members}
use Rattle.pdll_syntax.specs.StmtTree.{Stmt, let_stmt}
use Rattle.pdll_syntax.specs.declared.name.Name.{Name}
use Rattle.rewrite_model.specs.Pattern.{Part}
use Rattle.rewrite_model.specs.Doing.{Doing, ◌>>=◌}
use Rattle.rewrite_model.specs.Names.{Meant, Names as Sight}
use Rattle.rewrite_model.specs.RewritePart.{Script, Rewrites, form_evaluated, form_done, done}
use Rattle.rewrite_model.specs.Expanding.{within_parts}
use Rattle.pdll_patterns.specs.declared.names.Names.{Names}
use Rattle.pdll_patterns.specs.declared.script.Script.{Script as ScriptNode}
use Rattle.pdll_patterns.specs.Scripts.{AreNames, Does}
use Rattle.pdll_patterns.specs.Evaluating.{members_made, let_done, all_after}
use Rattle.pdll_patterns.proofs.Steps.{both}

-- an expression with numbers behind it
pub members_are : (w : Rewrites) (at : ℕ) (form : ExprForm) (ks : List ℕ) (old : Option Part)
    → (form_evaluated w form old >>= members_made ks) ≡ form_evaluated w (with_members at form ks) old
members_are w at form [] old = refl
members_are w at form (k ∷ ks) old = members_are w at (member_expr (expr at form) k) ks old

pub let_is : (w : Rewrites) (n : Name) (rs : List Ref) (v : Option Expr) → let_done w n.text v ≡ form_done w (let_stmt n rs v)
let_is w n rs None = refl
let_is w n rs (Some e) = refl

-- one statement, and what is left then
pub after_is : (w : Rewrites) (x : Meant Part) (s : Stmt) (ss : List Stmt) → all_after w x (s ∷ ss) ≡ (done w s >>= (λ y. all_after w y ss))
after_is w x s [] = refl
after_is w x s (r ∷ ss) = refl

-- work with names of its own leaves the names around it
pub within : {A E : Type 0} (of : A → Meant Part) (ns : Sight Part) (work : Doing Script (Meant Part)) (outer inner behind : Names) (old new : ScriptNode) (r : Result A E)
    → AreNames inner ns → Does of work (both inner old) r (both behind new) → Does of (within_parts ns work) (both outer old) r (both outer new)
within of ns work outer inner behind old new (Ok a) n g = λ t i.
    let x = g (record t { names = ns }) (record { names = n; count = i.count; actions = i.actions }) in
    (x.0, record { names = i.names; count = x.1.count; actions = x.1.actions })
within of ns work outer inner behind old new (Err e) n g = tt
