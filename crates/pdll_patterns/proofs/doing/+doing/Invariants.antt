use Rattle.std.proofs.Common.{◌+◌, ◌*◌, drop, None}
use Rattle.pdll_syntax.specs.ExprTree.{exprs, entries, maybe_expr, maybe_exprs}
use Rattle.pdll_syntax.specs.ExprSize.{expr_size, expr_form_size, op_size, entry_size, exprs_size, entries_size, maybe_expr_size, maybe_exprs_size}
use Rattle.pdll_syntax.specs.ExprView.{expr_form}
use Rattle.pdll_syntax.specs.StmtTree.{stmts}
use Rattle.pdll_syntax.specs.StmtSize.{stmt_size, stmt_form_size, stmts_size, values_size}
use Rattle.pdll_syntax.specs.StmtView.{stmt_form}
use Rattle.rewrite_model.specs.RewritePart.{Rewrites, evaluated, all_evaluated, operand_list, type_list, entries_evaluated, entry_evaluated, replacement, replacement_list, all_done}
use Rattle.pdll_patterns.specs.View.{part_of, meant_part_of, named_part_of}
use Rattle.pdll_patterns.specs.InSight.{Means, body_size, weight_of}
use Rattle.pdll_patterns.specs.Evaluating.{operand_made, type_made, all_after}
use Rattle.pdll_patterns.proofs.Steps.{both, Left, Reads}
use Rattle.pdll_patterns.proofs.doing.+doing.Given as goal

abbrev pub invariant-evaluate_all-loop-argument : goal.invariant-evaluate_all-loop-argument
invariant-evaluate_all-loop-argument l = (w : Rewrites) → Means l.rewrites w →
    Reads meant_part_of (λ x. evaluated w x None) (λ xs. all_evaluated w (exprs xs)) l.all l.argument-index l.found (both l.names l.fn.script) (both l.names l.script)

abbrev pub invariant-evaluate_operand_list-loop-x : goal.invariant-evaluate_operand_list-loop-x
invariant-evaluate_operand_list-loop-x l = (w : Rewrites) → Means l.rewrites w →
    Reads part_of (operand_made w) (λ xs. operand_list w (exprs xs)) l.all l.x-index l.found (both l.names l.fn.script) (both l.names l.script)

abbrev pub invariant-evaluate_type_list-loop-x : goal.invariant-evaluate_type_list-loop-x
invariant-evaluate_type_list-loop-x l = (w : Rewrites) → Means l.rewrites w →
    Reads part_of (type_made w) (λ xs. type_list w (exprs xs)) l.all l.x-index l.found (both l.names l.fn.script) (both l.names l.script)

abbrev pub invariant-evaluate_entries-loop-entry : goal.invariant-evaluate_entries-loop-entry
invariant-evaluate_entries-loop-entry l = (w : Rewrites) → Means l.rewrites w →
    Reads named_part_of (entry_evaluated w) (λ es. entries_evaluated w (entries es)) l.all l.entry-index l.found (both l.names l.fn.script) (both l.names l.script)

abbrev pub invariant-evaluate_replacement_list-loop-x : goal.invariant-evaluate_replacement_list-loop-x
invariant-evaluate_replacement_list-loop-x l = (w : Rewrites) → Means l.rewrites w →
    Reads part_of (replacement w None) (replacement_list w) l.all l.x-index l.found (both l.names l.fn.script) (both l.names l.script)

abbrev pub invariant-do_stmts-loop-one : goal.invariant-do_stmts-loop-one
invariant-do_stmts-loop-one l = (w : Rewrites) → Means l.rewrites w →
    Left (all_done w l.all) (all_after w (meant_part_of l.given) (drop l.one-index l.all)) (both l.fn.names l.fn.script) (both l.names l.script)

abbrev pub decreases-evaluate : goal.decreases-evaluate
decreases-evaluate l = 8 * expr_size l.x.now + 3 + weight_of l.rewrites.now

abbrev pub decreases-evaluate_form : goal.decreases-evaluate_form
decreases-evaluate_form l = 8 * expr_form_size (expr_form l.form.now) + 2 + weight_of l.rewrites.now

abbrev pub decreases-evaluate_call : goal.decreases-evaluate_call
decreases-evaluate_call l = 8 * exprs_size (exprs l.all.now) + 4 + weight_of l.rewrites.now

abbrev pub decreases-evaluate_all : goal.decreases-evaluate_all
decreases-evaluate_all l = 8 * exprs_size (exprs l.all.now) + 2 + weight_of l.rewrites.now

abbrev pub decreases-evaluate_operation : goal.decreases-evaluate_operation
decreases-evaluate_operation l = 8 * op_size l.operation.now + 2 + weight_of l.rewrites.now

abbrev pub decreases-evaluate_parts : goal.decreases-evaluate_parts
decreases-evaluate_parts l = 8 * op_size l.operation.now + 1 + weight_of l.rewrites.now

abbrev pub decreases-evaluate_operands : goal.decreases-evaluate_operands
decreases-evaluate_operands l = 8 * maybe_exprs_size (maybe_exprs l.all.now) + weight_of l.rewrites.now

abbrev pub decreases-evaluate_operand_list : goal.decreases-evaluate_operand_list
decreases-evaluate_operand_list l = 8 * exprs_size (exprs l.all.now) + 1 + weight_of l.rewrites.now

abbrev pub decreases-evaluate_operand : goal.decreases-evaluate_operand
decreases-evaluate_operand l = 8 * expr_size l.x.now + 4 + weight_of l.rewrites.now

abbrev pub decreases-evaluate_types : goal.decreases-evaluate_types
decreases-evaluate_types l = 8 * maybe_exprs_size (maybe_exprs l.all.now) + weight_of l.rewrites.now

abbrev pub decreases-evaluate_type_list : goal.decreases-evaluate_type_list
decreases-evaluate_type_list l = 8 * exprs_size (exprs l.all.now) + 1 + weight_of l.rewrites.now

abbrev pub decreases-evaluate_entries : goal.decreases-evaluate_entries
decreases-evaluate_entries l = 8 * entries_size (entries l.all.now) + weight_of l.rewrites.now

abbrev pub decreases-evaluate_entry : goal.decreases-evaluate_entry
decreases-evaluate_entry l = 8 * entry_size l.entry.now + 3 + weight_of l.rewrites.now

abbrev pub decreases-evaluate_value : goal.decreases-evaluate_value
decreases-evaluate_value l = 8 * maybe_expr_size (maybe_expr l.value.now) + weight_of l.rewrites.now

abbrev pub decreases-call : goal.decreases-call
decreases-call l = 1 + weight_of l.rewrites.now

abbrev pub decreases-run : goal.decreases-run
decreases-run l = 8 * body_size l.call.now.body + 6 + weight_of l.rewrites.now

abbrev pub decreases-run_value : goal.decreases-run_value
decreases-run_value l = 8 * expr_size l.x.now + 5 + weight_of l.rewrites.now

abbrev pub decreases-run_stmts : goal.decreases-run_stmts
decreases-run_stmts l = 8 * stmts_size (stmts l.all.now) + 5 + weight_of l.rewrites.now

abbrev pub decreases-do_stmts : goal.decreases-do_stmts
decreases-do_stmts l = 8 * stmts_size (stmts l.all.now) + 4 + weight_of l.rewrites.now

abbrev pub decreases-do_stmt : goal.decreases-do_stmt
decreases-do_stmt l = 8 * stmt_size l.one.now + 3 + weight_of l.rewrites.now

abbrev pub decreases-do_form : goal.decreases-do_form
decreases-do_form l = 8 * stmt_form_size (stmt_form l.form.now) + 2 + weight_of l.rewrites.now

abbrev pub decreases-do_let : goal.decreases-do_let
decreases-do_let l = 8 * maybe_expr_size (maybe_expr l.value.now) + 4 + weight_of l.rewrites.now

abbrev pub decreases-do_erase : goal.decreases-do_erase
decreases-do_erase l = 8 * expr_size l.x.now + 4 + weight_of l.rewrites.now

abbrev pub decreases-do_plain : goal.decreases-do_plain
decreases-do_plain l = 8 * expr_size l.x.now + 4 + weight_of l.rewrites.now

abbrev pub decreases-do_replace : goal.decreases-do_replace
decreases-do_replace l = 8 * (expr_size l.x.now + values_size l.values.now) + 5 + weight_of l.rewrites.now

abbrev pub decreases-replace_by : goal.decreases-replace_by
decreases-replace_by l = 8 * values_size l.values.now + 4 + weight_of l.rewrites.now

abbrev pub decreases-evaluate_values : goal.decreases-evaluate_values
decreases-evaluate_values l = 8 * values_size l.values.now + 3 + weight_of l.rewrites.now

abbrev pub decreases-evaluate_replacement : goal.decreases-evaluate_replacement
decreases-evaluate_replacement l = 8 * expr_size l.x.now + 4 + weight_of l.rewrites.now

abbrev pub decreases-evaluate_replacement_list : goal.decreases-evaluate_replacement_list
decreases-evaluate_replacement_list l = 8 * exprs_size (exprs l.all.now) + 1 + weight_of l.rewrites.now
