use Rattle.std.proofs.Common.{◌≡◌, ◌+◌, ◌*◌, ◌-◌, map, drop, length}
use Rattle.pdll_syntax.specs.ExprTree.{exprs, entries, refs, maybe_expr, maybe_exprs}
use Rattle.pdll_syntax.specs.ExprSize.{expr_size, expr_form_size, op_size, entry_size, ref_form_size, exprs_size, entries_size, refs_size, maybe_expr_size, maybe_exprs_size}
use Rattle.pdll_syntax.specs.ExprView.{expr_form, ref_form}
use Rattle.pdll_syntax.specs.StmtTree.{stmts}
use Rattle.pdll_syntax.specs.StmtSize.{stmt_size, stmt_form_size, stmts_size}
use Rattle.pdll_syntax.specs.StmtView.{stmt_form}
use Rattle.rewrite_model.specs.MatchPart.{operand_list, entries_of, entry_of, type_of_refs, expression, expressions, call_refs}
use Rattle.rewrite_model.specs.Expanding.{call_params}
use Rattle.pdll_expand.specs.View.{expr_of, meant_of, named_expr_of}
use Rattle.pdll_expand.specs.Reading.{operand_read, type_list, statements}
use Rattle.pdll_expand.specs.Table.{in_sight}
use Rattle.pdll_expand.proofs.Depth.{rank, depth, body_size}
use Rattle.pdll_expand.proofs.Steps.{Left, Reads, type_read}
use Rattle.pdll_expand.proofs.+reading.Given as goal

abbrev pub invariant-expressions::read_operand_list-loop-x : goal.invariant-expressions::read_operand_list-loop-x
invariant-expressions::read_operand_list-loop-x l =
    Reads expr_of (operand_read (in_sight l.constraints)) (λ xs. operand_list (in_sight l.constraints) (exprs xs)) l.all l.x-index l.found l.fn.scene l.scene

abbrev pub invariant-expressions::read_type_list-loop-x : goal.invariant-expressions::read_type_list-loop-x
invariant-expressions::read_type_list-loop-x l =
    Reads expr_of (type_read (in_sight l.constraints)) (λ xs. type_list (in_sight l.constraints) (exprs xs)) l.all l.x-index l.found l.fn.scene l.scene

abbrev pub invariant-expressions::read_entries-loop-entry : goal.invariant-expressions::read_entries-loop-entry
invariant-expressions::read_entries-loop-entry l =
    Reads named_expr_of (entry_of (in_sight l.constraints)) (λ es. entries_of (in_sight l.constraints) (entries es)) l.all l.entry-index l.found l.fn.scene l.scene

abbrev pub invariant-expressions::read_ref_type-loop-one : goal.invariant-expressions::read_ref_type-loop-one
invariant-expressions::read_ref_type-loop-one l =
    (type_of_refs (in_sight l.constraints) (refs l.all) ≡ type_of_refs (in_sight l.constraints) (refs (drop l.one-index l.all))) × (l.scene ≡ l.fn.scene)

abbrev pub decreases-expressions::read_expr : goal.decreases-expressions::read_expr
decreases-expressions::read_expr l = rank l.constraints + 4 * expr_size l.x.now + 3

abbrev pub decreases-expressions::read_form : goal.decreases-expressions::read_form
decreases-expressions::read_form l = rank l.constraints + 4 * expr_form_size (expr_form l.form.now) + 2

abbrev pub decreases-expressions::read_declared : goal.decreases-expressions::read_declared
decreases-expressions::read_declared l = rank l.constraints + 4 * refs_size (refs l.all.now) + 3

abbrev pub decreases-expressions::read_ref_type : goal.decreases-expressions::read_ref_type
decreases-expressions::read_ref_type l = rank l.constraints + 4 * refs_size (refs l.all.now) + 2

abbrev pub decreases-expressions::read_type_in : goal.decreases-expressions::read_type_in
decreases-expressions::read_type_in l = rank l.constraints + 4 * ref_form_size (ref_form l.form.now) + 3

abbrev pub decreases-expressions::read_given : goal.decreases-expressions::read_given
decreases-expressions::read_given l = rank l.constraints + 4 * maybe_expr_size (maybe_expr l.x.now)

abbrev pub decreases-expressions::read_operation : goal.decreases-expressions::read_operation
decreases-expressions::read_operation l = rank l.constraints + 4 * op_size l.operation.now + 2

abbrev pub decreases-expressions::read_parts : goal.decreases-expressions::read_parts
decreases-expressions::read_parts l = rank l.constraints + 4 * op_size l.operation.now + 1

abbrev pub decreases-expressions::read_operands : goal.decreases-expressions::read_operands
decreases-expressions::read_operands l = rank l.constraints + 4 * maybe_exprs_size (maybe_exprs l.all.now)

abbrev pub decreases-expressions::read_operand_list : goal.decreases-expressions::read_operand_list
decreases-expressions::read_operand_list l = rank l.constraints + 4 * exprs_size (exprs l.all.now) + 1

abbrev pub decreases-expressions::read_operand : goal.decreases-expressions::read_operand
decreases-expressions::read_operand l = rank l.constraints + 4 * expr_size l.x.now + 4

abbrev pub decreases-expressions::read_types : goal.decreases-expressions::read_types
decreases-expressions::read_types l = rank l.constraints + 4 * maybe_exprs_size (maybe_exprs l.all.now)

abbrev pub decreases-expressions::read_type_list : goal.decreases-expressions::read_type_list
decreases-expressions::read_type_list l = rank l.constraints + 4 * exprs_size (exprs l.all.now) + 1

abbrev pub decreases-expressions::read_entries : goal.decreases-expressions::read_entries
decreases-expressions::read_entries l = rank l.constraints + 4 * entries_size (entries l.all.now)

abbrev pub decreases-expressions::read_entry : goal.decreases-expressions::read_entry
decreases-expressions::read_entry l = rank l.constraints + 4 * entry_size l.entry.now + 3

abbrev pub decreases-expressions::read_value : goal.decreases-expressions::read_value
decreases-expressions::read_value l = rank l.constraints + 4 * maybe_expr_size (maybe_expr l.value.now)

abbrev pub decreases-expressions::read_variable : goal.decreases-expressions::read_variable
decreases-expressions::read_variable l = rank l.constraints + 3

-- ---- calls

abbrev pub invariant-calls::call_refs-loop-one : goal.invariant-calls::call_refs-loop-one
invariant-calls::call_refs-loop-one l =
    Left (call_refs (in_sight l.constraints) l.all (meant_of l.x)) (call_refs (in_sight l.constraints) (drop l.one-index l.all) (meant_of l.x)) l.fn.scene l.scene

abbrev pub invariant-calls::call_params-loop-at : goal.invariant-calls::call_params-loop-at
invariant-calls::call_params-loop-at l =
    Left (call_params (in_sight l.constraints) l.params (map meant_of l.arguments))
    (call_params (in_sight l.constraints) (drop l.at l.params) (map meant_of (drop l.at l.arguments))) l.fn.scene l.scene

abbrev pub decreases-calls::call_params-loop-at : goal.decreases-calls::call_params-loop-at
decreases-calls::call_params-loop-at l = length l.params - l.at

abbrev pub decreases-calls::call_constraint : goal.decreases-calls::call_constraint
decreases-calls::call_constraint l = rank l.constraints

abbrev pub decreases-calls::call_named : goal.decreases-calls::call_named
decreases-calls::call_named l = rank l.constraints + 1

abbrev pub decreases-calls::call_refs : goal.decreases-calls::call_refs
decreases-calls::call_refs l = rank l.constraints + 2

abbrev pub decreases-calls::call_params : goal.decreases-calls::call_params
decreases-calls::call_params l = rank l.constraints + 3

abbrev pub decreases-calls::call_found : goal.decreases-calls::call_found
decreases-calls::call_found l = depth l.found.at l.constraints.constraints.now + 4 * body_size l.found.call.now.body + 8

abbrev pub decreases-calls::call_body : goal.decreases-calls::call_body
decreases-calls::call_body l = rank l.constraints + 4 * body_size l.call.now.body + 7

abbrev pub decreases-calls::run_body : goal.decreases-calls::run_body
decreases-calls::run_body l = rank l.constraints + 4 * body_size l.call.now.body + 6

-- ---- statements

abbrev pub invariant-statements::read_exprs-loop-x : goal.invariant-statements::read_exprs-loop-x
invariant-statements::read_exprs-loop-x l =
    Reads meant_of (expression (in_sight l.constraints)) (λ xs. expressions (in_sight l.constraints) (exprs xs)) l.all l.x-index l.found l.fn.scene l.scene

abbrev pub invariant-statements::read_stmts-loop-one : goal.invariant-statements::read_stmts-loop-one
invariant-statements::read_stmts-loop-one l = Left (statements (in_sight l.constraints) l.all) (statements (in_sight l.constraints) (drop l.one-index l.all)) l.fn.scene l.scene

abbrev pub decreases-statements::read_exprs : goal.decreases-statements::read_exprs
decreases-statements::read_exprs l = rank l.constraints + 4 * exprs_size (exprs l.all.now) + 1

abbrev pub decreases-statements::read_call : goal.decreases-statements::read_call
decreases-statements::read_call l = rank l.constraints + 4 * exprs_size (exprs l.all.now) + 5

abbrev pub decreases-statements::read_alone : goal.decreases-statements::read_alone
decreases-statements::read_alone l = rank l.constraints + 4 * expr_size l.x.now + 5

abbrev pub decreases-statements::read_plain : goal.decreases-statements::read_plain
decreases-statements::read_plain l = rank l.constraints + 4 * expr_size l.x.now + 6

abbrev pub decreases-statements::read_let : goal.decreases-statements::read_let
decreases-statements::read_let l = rank l.constraints + 4 * refs_size (refs l.all.now) + 4 * maybe_expr_size (maybe_expr l.value.now) + 6

abbrev pub decreases-statements::read_stmt_form : goal.decreases-statements::read_stmt_form
decreases-statements::read_stmt_form l = rank l.constraints + 4 * stmt_form_size (stmt_form l.form.now) + 3

abbrev pub decreases-statements::read_stmt : goal.decreases-statements::read_stmt
decreases-statements::read_stmt l = rank l.constraints + 4 * stmt_size l.one.now + 3

abbrev pub decreases-statements::read_stmts : goal.decreases-statements::read_stmts
decreases-statements::read_stmts l = rank l.constraints + 4 * stmts_size (stmts l.all.now)

abbrev pub decreases-statements::read_body : goal.decreases-statements::read_body
decreases-statements::read_body l = rank l.constraints + 4 * body_size l.body.now + 5
