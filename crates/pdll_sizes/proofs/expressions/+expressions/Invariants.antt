use Rattle.std.proofs.Common.{◌≡◌, ◌+◌, ◌*◌, take}
use Rattle.pdll_syntax.specs.ExprTree.{exprs, entries, refs, maybe_expr, maybe_exprs}
use Rattle.pdll_syntax.specs.ExprSize.{expr_size, expr_form_size, op_size, entry_size, ref_size, ref_form_size, exprs_size, entries_size, refs_size, maybe_expr_size, maybe_exprs_size}
use Rattle.pdll_syntax.specs.ExprView.{expr_form, ref_form}
use Rattle.rewrite_model.specs.Size as spec
use Rattle.pdll_sizes.specs.Capped.{capped_size}
use Rattle.pdll_sizes.specs.Members.{total}
use Rattle.pdll_sizes.proofs.expressions.+expressions.Given as goal

abbrev pub invariant-exprs_size-loop-x : goal.invariant-exprs_size-loop-x
invariant-exprs_size-loop-x l = l.size ≡ capped_size (total (spec.expr_size (spec.sizes l.earlier)) (take l.x-index l.all))

abbrev pub invariant-entries_size-loop-entry : goal.invariant-entries_size-loop-entry
invariant-entries_size-loop-entry l = l.size ≡ capped_size (total (spec.entry_size (spec.sizes l.earlier)) (take l.entry-index l.all))

abbrev pub invariant-refs_size-loop-one : goal.invariant-refs_size-loop-one
invariant-refs_size-loop-one l = l.size ≡ capped_size (total (spec.ref_size (spec.sizes l.earlier)) (take l.one-index l.all))

abbrev pub decreases-expr_size : goal.decreases-expr_size
decreases-expr_size l = 4 * expr_size l.x.now + 3

abbrev pub decreases-form_size : goal.decreases-form_size
decreases-form_size l = 4 * expr_form_size (expr_form l.form.now) + 2

abbrev pub decreases-operation_size : goal.decreases-operation_size
decreases-operation_size l = 4 * op_size l.operation.now + 1

abbrev pub decreases-list_size : goal.decreases-list_size
decreases-list_size l = 4 * maybe_exprs_size (maybe_exprs l.all.now)

abbrev pub decreases-exprs_size : goal.decreases-exprs_size
decreases-exprs_size l = 4 * exprs_size (exprs l.all.now) + 1

abbrev pub decreases-entries_size : goal.decreases-entries_size
decreases-entries_size l = 4 * entries_size (entries l.all.now)

abbrev pub decreases-entry_size : goal.decreases-entry_size
decreases-entry_size l = 4 * entry_size l.entry.now + 3

abbrev pub decreases-refs_size : goal.decreases-refs_size
decreases-refs_size l = 4 * refs_size (refs l.all.now) + 1

abbrev pub decreases-ref_size : goal.decreases-ref_size
decreases-ref_size l = 4 * ref_size l.one.now + 3

abbrev pub decreases-ref_form_size : goal.decreases-ref_form_size
decreases-ref_form_size l = 4 * ref_form_size (ref_form l.form.now) + 3

abbrev pub decreases-of_size : goal.decreases-of_size
decreases-of_size l = 4 * maybe_expr_size (maybe_expr l.of.now)
