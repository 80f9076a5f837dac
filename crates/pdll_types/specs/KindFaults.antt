-- Expressions of another kind than their place asks for, calls with another number of arguments, and second ranges (MLIR's
-- document "PDLL - PDL Language", "Variables", "Constraints", "Rewriters" and "Operation Expression").
use Rattle.std.specs.Prelude.{ℕ, ◌+◌, Bool, true, false, not, ◌&&◌, ◌||◌, ◌==◌, List, [], ◌∷◌, ◌++◌, length, Option, None}
use Rattle.pdll_syntax.specs.ExprTree.{Expr, ExprForm, call_expr, declare_expr, Exprs, no_exprs, expr_then, ref, RefForm, named_ref}
use Rattle.pdll_types.specs.declared.kind.Kind.{Kind}
use Rattle.pdll_types.specs.declared.section.Section.TheVariants.{Matched}
use Rattle.pdll_types.specs.Kinds.{Asked, constraint_call, written, result_type, answers, holds, is_range}
use Rattle.pdll_types.specs.Signatures.{Declared, is_constraint, is_callable, parameters, only_parameter}
use Rattle.pdll_types.specs.Mentions.{Mention, use_of, listed, one_ref}
use Rattle.pdll_types.specs.Sight.{Known, Seen, kind_of, form_of, place_of}
use Rattle.pdll_types.specs.Names.{where_so}

-- ---- kinds

abbrev pub calls_constraint : List Declared → ExprForm → Bool
calls_constraint c (call_expr n xs) = is_constraint c n
calls_constraint c form = false

-- Whether it declares a variable whose refs tell no kind: what is wrong is said at its refs.
abbrev pub is_untold : ExprForm → Option Kind → Bool
is_untold (declare_expr n rs) None = true
is_untold form k = false

-- Whether the place asks for another expression than this one, which is of this kind.
abbrev pub is_wrong_kind : List Declared → Asked → ExprForm → Option Kind → Bool
is_wrong_kind c constraint_call form k = not (calls_constraint c form)
is_wrong_kind c a form k = not (is_untold form k || answers a k)

-- Whether a ref of a variable of this kind is a constraint that takes another kind, or a kind behind another one.
abbrev pub is_wrong_ref : List Declared → Option Kind → Bool → RefForm → Bool
is_wrong_ref c k later (named_ref n) = not (answers (written (only_parameter c n)) k)
is_wrong_ref c k later form = later

abbrev pub wrong_kind_at : List Declared → Seen → Mention → List ℕ
wrong_kind_at c s (use_of p a at form) = where_so (is_wrong_kind c a form (kind_of c s.sight form)) at
wrong_kind_at c s (one_ref h k later (ref at form)) = where_so (is_wrong_ref c k later form) at
wrong_kind_at c s m = []

-- ---- numbers of arguments

abbrev pub count : Exprs → ℕ
count no_exprs = 0
count (expr_then x xs) = count xs + 1

abbrev pub has_wrong_arity : List Declared → ExprForm → Bool
has_wrong_arity c (call_expr n xs) = is_callable c n && not (count xs == length (parameters c n))
has_wrong_arity c form = false

abbrev pub is_one : List (Option Kind) → Bool
is_one (k ∷ []) = true
is_one ks = false

abbrev pub has_ref_wrong_arity : List Declared → RefForm → Bool
has_ref_wrong_arity c (named_ref n) = is_constraint c n && not (is_one (parameters c n))
has_ref_wrong_arity c form = false

abbrev pub wrong_arity_at : List Declared → Seen → Mention → List ℕ
wrong_arity_at c s (use_of p a at form) = where_so (has_wrong_arity c form) at
wrong_arity_at c s (one_ref h k later (ref at form)) = where_so (has_ref_wrong_arity c form) at
wrong_arity_at c s m = []

-- ---- ranges

abbrev pub is_range_expr : List Declared → List Known → Expr → Bool
is_range_expr c s x = holds is_range (kind_of c s (form_of x))

-- Ranges with another one before them in the list, or outside before it.
abbrev pub ranges_behind : List Declared → List Known → Bool → Exprs → List ℕ
ranges_behind c s one no_exprs = []
ranges_behind c s one (expr_then x xs) = where_so (one && is_range_expr c s x) (place_of x) ++ ranges_behind c s (one || is_range_expr c s x) xs

-- Second ranges among result types of a match. Those among operands are told apart by sizes.
abbrev pub two_ranges_at : List Declared → Seen → Mention → List ℕ
two_ranges_at c s (listed Matched result_type xs) = ranges_behind c s.sight false xs
two_ranges_at c s m = []
