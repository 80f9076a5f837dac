use Rattle.std.proofs.Common.{◌≡◌, ◌≤◌, ◌-◌, length, drop}
use Rattle.pdll_syntax.specs.Equal.{exprs_eq, entries_eq, refs_eq}
use Rattle.pdll_syntax.specs.ExprTree.{exprs, entries, refs, maybe_expr, maybe_exprs}
use Rattle.pdll_syntax.specs.ExprSize.{expr_size, expr_form_size, op_size, entry_size, ref_size, ref_form_size, exprs_size, entries_size, refs_size, maybe_expr_size, maybe_exprs_size}
use Rattle.pdll_syntax.specs.ExprView.{expr_form, ref_form}
use Rattle.pdll_syntax.proofs.expr.+same_expr.Given as goal

abbrev pub invariant-same_exprs-loop-at : goal.invariant-same_exprs-loop-at
invariant-same_exprs-loop-at l =
    (l.at ≤ length l.a) × (l.at ≤ length l.b) × (exprs_eq (exprs (drop l.at l.a)) (exprs (drop l.at l.b)) ≡ exprs_eq (exprs l.a) (exprs l.b))

abbrev pub decreases-same_exprs-loop-at : goal.decreases-same_exprs-loop-at
decreases-same_exprs-loop-at l = length l.a - l.at

abbrev pub invariant-same_entries-loop-at : goal.invariant-same_entries-loop-at
invariant-same_entries-loop-at l =
    (l.at ≤ length l.a) × (l.at ≤ length l.b) × (entries_eq (entries (drop l.at l.a)) (entries (drop l.at l.b)) ≡ entries_eq (entries l.a) (entries l.b))

abbrev pub decreases-same_entries-loop-at : goal.decreases-same_entries-loop-at
decreases-same_entries-loop-at l = length l.a - l.at

abbrev pub invariant-same_refs-loop-at : goal.invariant-same_refs-loop-at
invariant-same_refs-loop-at l =
    (l.at ≤ length l.a) × (l.at ≤ length l.b) × (refs_eq (refs (drop l.at l.a)) (refs (drop l.at l.b)) ≡ refs_eq (refs l.a) (refs l.b))

abbrev pub decreases-same_refs-loop-at : goal.decreases-same_refs-loop-at
decreases-same_refs-loop-at l = length l.a - l.at

abbrev pub decreases-same_expr : goal.decreases-same_expr
decreases-same_expr l = expr_size l.x.now

abbrev pub decreases-same_expr_form : goal.decreases-same_expr_form
decreases-same_expr_form l = expr_form_size (expr_form l.x.now)

abbrev pub decreases-same_op : goal.decreases-same_op
decreases-same_op l = op_size l.x.now

abbrev pub decreases-same_entry : goal.decreases-same_entry
decreases-same_entry l = entry_size l.x.now

abbrev pub decreases-same_ref : goal.decreases-same_ref
decreases-same_ref l = ref_size l.x.now

abbrev pub decreases-same_ref_form : goal.decreases-same_ref_form
decreases-same_ref_form l = ref_form_size (ref_form l.x.now)

abbrev pub decreases-same_exprs : goal.decreases-same_exprs
decreases-same_exprs l = exprs_size (exprs l.a.now)

abbrev pub decreases-same_entries : goal.decreases-same_entries
decreases-same_entries l = entries_size (entries l.a.now)

abbrev pub decreases-same_refs : goal.decreases-same_refs
decreases-same_refs l = refs_size (refs l.a.now)

abbrev pub decreases-same_maybe : goal.decreases-same_maybe
decreases-same_maybe l = maybe_expr_size (maybe_expr l.x.now)

abbrev pub decreases-same_written : goal.decreases-same_written
decreases-same_written l = maybe_exprs_size (maybe_exprs l.x.now)
