-- Expressions with numbers behind them, and how many expressions a list has.
use Rattle.std.proofs.Common.{◌≡◌, ℕ, ◌<◌, List, [], ◌∷◌, length, Some, refl, arith}
use Rattle.pdll_syntax.specs.ExprTree.{Expr, expr, ExprForm, member_expr, exprs}
use Rattle.pdll_syntax.specs.ExprView.{with_members}
use Rattle.pdll_types.specs.declared.kind.Kind.TheVariants.{Value}
use Rattle.pdll_types.specs.Signatures.{Declared}
use Rattle.pdll_types.specs.Sight.{Known, kind_of}
use Rattle.pdll_types.specs.KindFaults.{count}

pub count_exprs : (xs : List Expr) → count (exprs xs) ≡ length xs
count_exprs [] = refl
count_exprs (x ∷ xs) = let rest : count (exprs xs) ≡ length xs = count_exprs xs in omega (arith, rest)

kind_more : (c : List Declared) (s : List Known) (at : ℕ) (x : Expr) (k : ℕ) (ks : List ℕ) → kind_of c s (with_members at (member_expr x k) ks) ≡ Some Value
kind_more c s at x k [] = refl
kind_more c s at x k (j ∷ ks) = kind_more c s at (expr at (member_expr x k)) j ks

pub kind_members : (c : List Declared) (s : List Known) (at : ℕ) (form : ExprForm) (ks : List ℕ) → 0 < length ks → kind_of c s (with_members at form ks) ≡ Some Value
kind_members c s at form [] h = absurd (omega arith)
kind_members c s at form (k ∷ ks) h = kind_more c s at (expr at form) k ks
