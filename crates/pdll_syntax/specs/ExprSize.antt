-- How many nodes an expression has. A part has fewer than what holds it.
use Rattle.std.proofs.Common.{◌≡◌, ℕ, zero, suc, ◌+◌, ◌<◌, ◌≤◌, List, [], ◌∷◌, length, get_or, ap, arith}
use denote.Param.Weighed.{most}
use Rattle.pdll_syntax.specs.ExprTree.{Expr, expr, ExprForm, name_expr, call_expr, declare_expr, attr_expr, type_expr, op_expr, member_expr, OpExpr, operation, Entry, entry, Ref, ref, RefForm, attr_ref, op_ref, type_ref, type_range_ref, value_ref, value_range_ref, named_ref, Exprs, no_exprs, expr_then, exprs, Entries, no_entries, entry_then, entries, Refs, no_refs, ref_then, refs, MaybeExpr, no_expr, some_expr, MaybeExprs, left_out, written}

abbrev mutual
  pub expr_size : Expr → ℕ
  expr_size (expr at form) = expr_form_size form + 1

  pub expr_form_size : ExprForm → ℕ
  expr_form_size (name_expr n) = 1
  expr_form_size (call_expr n xs) = exprs_size xs + 1
  expr_form_size (declare_expr n rs) = refs_size rs + 1
  expr_form_size (attr_expr l) = 1
  expr_form_size (type_expr l) = 1
  expr_form_size (op_expr o) = op_size o + 1
  expr_form_size (member_expr x k) = expr_size x + 1

  pub op_size : OpExpr → ℕ
  op_size (operation n xs es ts) = maybe_exprs_size xs + entries_size es + maybe_exprs_size ts + 1

  pub entry_size : Entry → ℕ
  entry_size (entry at n x) = maybe_expr_size x + 1

  pub ref_size : Ref → ℕ
  ref_size (ref at form) = ref_form_size form + 1

  pub ref_form_size : RefForm → ℕ
  ref_form_size (attr_ref x) = maybe_expr_size x + 1
  ref_form_size (op_ref n) = 1
  ref_form_size type_ref = 1
  ref_form_size type_range_ref = 1
  ref_form_size (value_ref x) = maybe_expr_size x + 1
  ref_form_size (value_range_ref x) = maybe_expr_size x + 1
  ref_form_size (named_ref n) = 1

  pub exprs_size : Exprs → ℕ
  exprs_size no_exprs = 1
  exprs_size (expr_then x xs) = expr_size x + exprs_size xs + 1

  pub entries_size : Entries → ℕ
  entries_size no_entries = 1
  entries_size (entry_then e es) = entry_size e + entries_size es + 1

  pub refs_size : Refs → ℕ
  refs_size no_refs = 1
  refs_size (ref_then r rs) = ref_size r + refs_size rs + 1

  pub maybe_expr_size : MaybeExpr → ℕ
  maybe_expr_size no_expr = 1
  maybe_expr_size (some_expr x) = expr_size x + 1

  pub maybe_exprs_size : MaybeExprs → ℕ
  maybe_exprs_size left_out = 1
  maybe_exprs_size (written xs) = exprs_size xs + 1

-- ---- an item has fewer than its list

pub expr_at : (xs : List Expr) (i : ℕ) (d : Expr) → i < length xs → expr_size (get_or xs i d) < exprs_size (exprs xs)
expr_at [] i d h = absurd (omega arith)
expr_at (x ∷ xs) zero d h = omega arith
expr_at (x ∷ xs) (suc i) d h = omega (arith, expr_at xs i d (omega arith))

pub expr_item : (xs : List Expr) (i : ℕ) (x : Expr) → i < length xs → x ≡ get_or xs i x → expr_size x < exprs_size (exprs xs)
expr_item xs i x h is = omega (arith, ap expr_size is, expr_at xs i x h)

pub entry_at : (es : List Entry) (i : ℕ) (d : Entry) → i < length es → entry_size (get_or es i d) < entries_size (entries es)
entry_at [] i d h = absurd (omega arith)
entry_at (e ∷ es) zero d h = omega arith
entry_at (e ∷ es) (suc i) d h = omega (arith, entry_at es i d (omega arith))

pub entry_item : (es : List Entry) (i : ℕ) (e : Entry) → i < length es → e ≡ get_or es i e → entry_size e < entries_size (entries es)
entry_item es i e h is = omega (arith, ap entry_size is, entry_at es i e h)

pub ref_at : (rs : List Ref) (i : ℕ) (d : Ref) → i < length rs → ref_size (get_or rs i d) < refs_size (refs rs)
ref_at [] i d h = absurd (omega arith)
ref_at (r ∷ rs) zero d h = omega arith
ref_at (r ∷ rs) (suc i) d h = omega (arith, ref_at rs i d (omega arith))

pub ref_item : (rs : List Ref) (i : ℕ) (r : Ref) → i < length rs → r ≡ get_or rs i r → ref_size r < refs_size (refs rs)
ref_item rs i r h is = omega (arith, ap ref_size is, ref_at rs i r h)

-- ---- so does the largest item

pub most_exprs : (xs : List Expr) → most (λ x. expr_size x + 1) xs ≤ exprs_size (exprs xs)
most_exprs [] = omega arith
most_exprs (x ∷ xs) = omega (arith, most_exprs xs)

pub most_entries : (es : List Entry) → most (λ e. entry_size e + 1) es ≤ entries_size (entries es)
most_entries [] = omega arith
most_entries (e ∷ es) = omega (arith, most_entries es)

pub most_refs : (rs : List Ref) → most (λ r. ref_size r + 1) rs ≤ refs_size (refs rs)
most_refs [] = omega arith
most_refs (r ∷ rs) = omega (arith, most_refs rs)
