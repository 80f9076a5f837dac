use Rattle.std.proofs.Common.{◌≡◌, ◌+◌, ◌*◌, false, drop}
use Rattle.pdll_syntax.specs.ExprTree.{exprs, entries, refs, maybe_expr, maybe_exprs}
use Rattle.pdll_syntax.specs.ExprSize.{expr_size, expr_form_size, op_size, entry_size, ref_size, ref_form_size, exprs_size, entries_size, refs_size, maybe_expr_size, maybe_exprs_size}
use Rattle.pdll_syntax.specs.ExprView.{expr_form, ref_form}
use Rattle.pdll_types.specs.Asking.{asked_of}
use Rattle.pdll_types.specs.Mentions.{of_exprs, of_arguments, of_entries, of_refs}
use Rattle.pdll_types.specs.Walk.{walked}
use Rattle.pdll_types.proofs.expressions.+expressions.Given as goal

abbrev pub invariant-walk_exprs-loop-x : goal.invariant-walk_exprs-loop-x
invariant-walk_exprs-loop-x l =
    walked l.table (of_exprs l.table l.section (asked_of l.asked) (exprs l.all)) l.fn.walk
    ≡ walked l.table (of_exprs l.table l.section (asked_of l.asked) (exprs (drop l.x-index l.all))) l.walk

abbrev pub invariant-walk_arguments-loop-x : goal.invariant-walk_arguments-loop-x
invariant-walk_arguments-loop-x l =
    walked l.table (of_arguments l.table l.section l.fn.parameters (exprs l.all)) l.fn.walk
    ≡ walked l.table (of_arguments l.table l.section l.rest (exprs (drop l.x-index l.all))) l.walk

abbrev pub invariant-walk_entries-loop-entry : goal.invariant-walk_entries-loop-entry
invariant-walk_entries-loop-entry l =
    walked l.table (of_entries l.table l.section (entries l.all)) l.fn.walk
    ≡ walked l.table (of_entries l.table l.section (entries (drop l.entry-index l.all))) l.walk

abbrev pub invariant-walk_each_ref-loop-one : goal.invariant-walk_each_ref-loop-one
invariant-walk_each_ref-loop-one l =
    walked l.table (of_refs l.table l.section l.holder l.kind false (refs l.all)) l.fn.walk
    ≡ walked l.table (of_refs l.table l.section l.holder l.kind l.later (refs (drop l.one-index l.all))) l.walk

abbrev pub decreases-walk_expr : goal.decreases-walk_expr
decreases-walk_expr l = 4 * expr_size l.x.now + 3

abbrev pub decreases-walk_form : goal.decreases-walk_form
decreases-walk_form l = 4 * expr_form_size (expr_form l.form.now) + 2

abbrev pub decreases-walk_inside : goal.decreases-walk_inside
decreases-walk_inside l = 4 * expr_form_size (expr_form l.form.now) + 1

abbrev pub decreases-walk_declared : goal.decreases-walk_declared
decreases-walk_declared l = 4 * refs_size (refs l.all.now) + 3

abbrev pub decreases-walk_refs : goal.decreases-walk_refs
decreases-walk_refs l = 4 * refs_size (refs l.all.now) + 2

abbrev pub decreases-walk_each_ref : goal.decreases-walk_each_ref
decreases-walk_each_ref l = 4 * refs_size (refs l.all.now) + 1

abbrev pub decreases-walk_ref : goal.decreases-walk_ref
decreases-walk_ref l = 4 * ref_size l.one.now + 3

abbrev pub decreases-walk_ref_form : goal.decreases-walk_ref_form
decreases-walk_ref_form l = 4 * ref_form_size (ref_form l.form.now) + 3

abbrev pub decreases-walk_operation : goal.decreases-walk_operation
decreases-walk_operation l = 4 * op_size l.operation.now + 1

abbrev pub decreases-walk_list : goal.decreases-walk_list
decreases-walk_list l = 4 * maybe_exprs_size (maybe_exprs l.all.now)

abbrev pub decreases-walk_exprs : goal.decreases-walk_exprs
decreases-walk_exprs l = 4 * exprs_size (exprs l.all.now) + 1

abbrev pub decreases-walk_arguments : goal.decreases-walk_arguments
decreases-walk_arguments l = 4 * exprs_size (exprs l.all.now) + 1

abbrev pub decreases-walk_entries : goal.decreases-walk_entries
decreases-walk_entries l = 4 * entries_size (entries l.all.now)

abbrev pub decreases-walk_entry : goal.decreases-walk_entry
decreases-walk_entry l = 4 * entry_size l.entry.now + 3

abbrev pub decreases-walk_maybe : goal.decreases-walk_maybe
decreases-walk_maybe l = 4 * maybe_expr_size (maybe_expr l.x.now)
