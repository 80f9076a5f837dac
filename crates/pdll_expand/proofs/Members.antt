-- An expression with numbers behind it.
use Rattle.std.proofs.Common.{◌≡◌, ℕ, List, [], ◌∷◌, refl}
use Rattle.pdll_syntax.specs.ExprTree.{expr, ExprForm, member_expr}
use Rattle.pdll_syntax.specs.ExprView.{with_members}
use Rattle.rewrite_model.specs.Doing.{◌>>=◌}
use Rattle.rewrite_model.specs.MatchPart.{Constrains, form_at}
use Rattle.pdll_expand.specs.Reading.{members_read}

pub members_are : (c : List ℕ → Constrains) (at : ℕ) (form : ExprForm) (ks : List ℕ)
    → (form_at c form at >>= members_read ks) ≡ form_at c (with_members at form ks) at
members_are c at form [] = refl
members_are c at form (k ∷ ks) = members_are c at (member_expr (expr at form) k) ks
