use Rattle.std.proofs.Common.{List, Option, None, map, drop, ◌+◌, option_map, ap, refl, sym, ◌∙◌, subst, arith}
use Rattle.mlir_tree.specs.Tree.{unit}
use Rattle.native_set.specs.declared.native.Kind.TheVariants.{Attr, Op}
use Rattle.pdll_syntax.specs.ExprTree.{Expr, exprs, entries, maybe_expr}
use Rattle.pdll_syntax.specs.ExprSize.{expr_size, expr_item, entry_item}
use Rattle.pdll_syntax.specs.ExprFalls.{members_more}
use Rattle.pdll_syntax.specs.ExprView.{expr_form, op_of}
use Rattle.pdll_syntax.specs.StmtSize.{stmt_item}
use Rattle.pdll_syntax.specs.StmtView.{stmt_form}
use Rattle.pdll_syntax.specs.declared.stmt.Body.{Body}
use Rattle.pdll_syntax.specs.declared.stmt.Param.{Param}
use Rattle.pdll_syntax.specs.declared.stmt.StmtForm.{StmtForm as StmtNode}
use Rattle.rewrite_model.specs.Pattern.{attr_literal, new_operation, replaces, erases}
use Rattle.rewrite_model.specs.Doing.{pure, ◌>>=◌, ◌>>◌}
use Rattle.rewrite_model.specs.Names.{named_together}
use Rattle.rewrite_model.specs.RewritePart.{no_part, act, make, operand_part, replacement_part, evaluated, form_evaluated, all_evaluated, operation_evaluated, operand_list, type_list, entries_evaluated, entry_evaluated, value_evaluated, replacement, replacement_list, replacements, form_done, done, all_done}
use Rattle.rewrite_model.specs.Expanding.{param_names, call_rewrite}
use Rattle.pdll_patterns.specs.View.{part_of, meant_part_of, named_part_of, parts_of}
use Rattle.pdll_patterns.specs.Scripts.{AreNames, Gave, Does}
use Rattle.pdll_patterns.specs.InSight.{IsFound}
use Rattle.pdll_patterns.specs.Evaluating as part
use Rattle.pdll_patterns.proofs.Loops.{next_item, none_behind}
use Rattle.pdll_patterns.proofs.Bodies.{members_are, let_is, after_is, within}
use Rattle.pdll_patterns.proofs.Steps.{both, gave, then_gave, then_do, left_as, left_after, none_left, read_all, one_read}
use Rattle.pdll_patterns.proofs.doing.+doing.Goals as goal

pub evaluate-evaluate_form-requires : goal.evaluate-evaluate_form-requires
evaluate-evaluate_form-requires t c =
    (omega (arith, c.decreases, c.in_ok-deeper.ensures.weight, ap expr_size c.x.view_is, members_more c.x.inside.at (expr_form c.x.inside.form) c.x.inside.members), tt)

pub evaluate-returns : goal.evaluate-returns
evaluate-returns t c = λ w h.
    let at = c.x.inside.at in
    let form = expr_form c.x.inside.form in
    let ks = c.as_slice.result.now in
    let replaced = option_map part_of c.args.replaced in
    let names = c.args.names.now in
    let old = both names c.args.script.now in
    let mid = both names c.evaluate_form.new.script in
    let new = both names c.evaluate_members.new.script in
    let r = c.evaluate_members.result in
    let e = ap (λ (js : List _). form_evaluated w form replaced >>= part.members_made js) c.as_slice.ensures
    ∙ (members_are w at form c.x.inside.members replaced ∙ ap (λ (y : Expr). evaluated w y replaced) c.x.view_is) in
    subst (λ p. Does meant_part_of p old r new) e
    (then_do meant_part_of meant_part_of (form_evaluated w form replaced) (part.members_made ks) old mid new c.in_ok-first.first r (c.in_ok-first.ensures w (c.in_ok-deeper.ensures.means w h)) (c.evaluate_members.ensures names))

pub evaluate_call-returns : goal.evaluate_call-returns
evaluate_call-returns t c = λ w h.
    let n = c.args.name.now in
    let all = c.args.all.now in
    let xs = c.in_ok-arguments.arguments in
    let names = c.args.names.now in
    let old = both names c.args.script.now in
    let mid = both names c.evaluate_all.new.script in
    let new = both names c.call.new.script in
    let r = c.call.result in
    let called = subst (λ ys. Does meant_part_of (w n (map meant_part_of ys)) mid r new) c.as_slice.ensures (c.call.ensures w h names) in
    then_do (map meant_part_of) meant_part_of (all_evaluated w (exprs all)) (λ ys. w n ys) old mid new xs r (c.in_ok-arguments.ensures w h) called

pub evaluate_operation-returns : goal.evaluate_operation-returns
evaluate_operation-returns t c = λ w h.
    let o = c.operation.inside in
    let op = op_of o.name o.operands o.entries o.types in
    let replaced = option_map part_of c.args.replaced in
    let names = c.args.names.now in
    let old = both names c.args.script.now in
    let mid = both names c.evaluate_parts.new.script in
    let new = both names c.make.new.self in
    let r = c.make.result in
    let p = c.in_ok-parts.parts in
    let parted = subst (λ v. Gave parts_of (part.parts_made w v replaced) old p mid) (sym c.operation.view_is) (c.in_ok-parts.ensures w h) in
    let made = subst (λ n. Does meant_part_of (make Op (new_operation n (parts_of p))) mid r new) c.as_slice.ensures (c.make.ensures names) in
    subst (λ v. Does meant_part_of (operation_evaluated w v replaced) old r new) c.operation.view_is
    (then_do parts_of meant_part_of (part.parts_made w op replaced) (λ q. make Op (new_operation o.name q)) old mid new p r parted made)

pub evaluate_operand-returns : goal.evaluate_operand-returns
evaluate_operand-returns t c = λ w h.
    let names = c.args.names.now in
    let old = both names c.args.script.now in
    let mid = both names c.evaluate.new.script in
    let new = both names c.operand.new.self in
    then_do meant_part_of part_of (evaluated w c.args.x.now None) operand_part old mid new c.in_ok-value.value c.operand.result (c.in_ok-value.ensures w h) (c.operand.ensures names)

pub evaluate_replacement-returns : goal.evaluate_replacement-returns
evaluate_replacement-returns t c = λ w h.
    let names = c.args.names.now in
    let old = both names c.args.script.now in
    let mid = both names c.evaluate.new.script in
    let new = both names c.replacement.new.self in
    then_do meant_part_of part_of (evaluated w c.args.x.now (option_map part_of c.args.replaced)) replacement_part old mid new c.in_ok-value.value c.replacement.result (c.in_ok-value.ensures w h) (c.replacement.ensures names)

pub evaluate_value-returns-in_ok-x-in-None : goal.evaluate_value-returns-in_ok-x-in-None
evaluate_value-returns-in_ok-x-in-None t c = λ w h.
    let x = c.in_ok-x-in-None.x in
    let names = c.args.names.now in
    let old = both names c.args.script.now in
    let new = both names c.make.new.self in
    let made = subst (λ v. Gave meant_part_of (make Attr (attr_literal v)) old x new) c.unit.ensures (c.in_ok-x-in-None.ensures names) in
    subst (λ (o : Option Expr). Gave part_of (value_evaluated w (maybe_expr o)) old x.is new) (sym c.in-None.is)
    (then_gave meant_part_of part_of (make Attr (attr_literal unit)) (λ y. pure y.is) old new new x x.is made (gave part_of x.is new))

pub replace_by-returns : goal.replace_by-returns
replace_by-returns t c = λ w h.
    let names = c.args.names.now in
    let old = both names c.args.script.now in
    let mid = both names c.evaluate_values.new.script in
    let new = both names c.act.new.self in
    let p = part_of c.args.old in
    then_do (map part_of) (λ u. u) (replacements w p c.args.values.now) (λ ps. act (replaces p ps)) old mid new c.in_ok-parts.parts c.act.result (c.in_ok-parts.ensures w h) (c.act.ensures names)

pub call-returns-in-None : goal.call-returns-in-None
call-returns-in-None t c = λ w h names.
    let n = c.args.name.now in
    let xs = map meant_part_of c.args.arguments.now in
    let old = both names c.args.script.now in
    let f = subst (IsFound n w) c.in-None.is (c.find.ensures.found w h) in
    subst (λ p. Gave meant_part_of p old c.none.result old) (sym (f xs)) (λ u i. (c.none.ensures, i))

pub call-returns-in-Some : goal.call-returns-in-Some
call-returns-in-Some t c = λ w h names.
    let n = c.args.name.now in
    let xs = map meant_part_of c.args.arguments.now in
    let old = both names c.args.script.now in
    let new = both names c.run.new.script in
    let f = subst (IsFound n w) c.in-Some.is (c.find.ensures.found w h) in
    subst (λ p. Does meant_part_of p old c.run.result new) (sym (f.1.1 xs)) (c.run.ensures f.0 f.1.0 names)

pub run-returns-in-Braces : goal.run-returns-in-Braces
run-returns-in-Braces t c = λ w h names.
    let call = c.args.call.now in
    let xs = map meant_part_of c.args.arguments.now in
    let old = both names c.args.script.now in
    let new = both names c.run_stmts.new.script in
    let r = c.run_stmts.result in
    let run = subst (λ ss. Does meant_part_of (part.statements_run w call xs ss) old r new) c.as_slice.ensures (c.run_stmts.ensures w h names) in
    subst (λ (b : Body). Does meant_part_of (call_rewrite w call b xs) old r new) (sym c.in-Braces.is) run

pub run-returns-in-Value : goal.run-returns-in-Value
run-returns-in-Value t c = λ w h names.
    let call = c.args.call.now in
    let xs = map meant_part_of c.args.arguments.now in
    let old = both names c.args.script.now in
    let new = both names c.run_value.new.script in
    let r = c.run_value.result in
    subst (λ (b : Body). Does meant_part_of (call_rewrite w call b xs) old r new) (sym c.in-Value.is) (c.run_value.ensures w h names)

pub run_value-returns : goal.run_value-returns
run_value-returns t c = λ w h outer.
    let call = c.args.call.now in
    let xs = map meant_part_of c.args.arguments.now in
    let inner = c.in_ok-names.names in
    let named = subst (λ (ps : List Param). AreNames inner (named_together (param_names ps) xs)) c.as_slice.ensures c.in_ok-names.ensures in
    within meant_part_of (part.params_named call xs) (evaluated w c.args.x.now None) outer inner inner c.args.script.now c.evaluate.new.script c.evaluate.result named (c.evaluate.ensures w h)

pub run_stmts-returns : goal.run_stmts-returns
run_stmts-returns t c = λ w h outer.
    let call = c.args.call.now in
    let xs = map meant_part_of c.args.arguments.now in
    let inner = c.in_ok-names.names in
    let named = subst (λ (ps : List Param). AreNames inner (named_together (param_names ps) xs)) c.as_slice.ensures c.in_ok-names.ensures in
    within meant_part_of (part.params_named call xs) (all_done w c.args.all.now) outer inner c.do_stmts.new.names c.args.script.now c.do_stmts.new.script c.do_stmts.result named (c.do_stmts.ensures w h)

pub do_stmts-do_stmt-requires : goal.do_stmts-do_stmt-requires
do_stmts-do_stmt-requires t c =
    (omega (arith, c.decreases, stmt_item c.args.all.now c.loop-one.one-index c.one-item.result (omega arith) c.one-item.is), tt)

pub do_stmts-loop-one-preserved : goal.do_stmts-loop-one-preserved
do_stmts-loop-one-preserved t c = λ w h.
    let all = c.args.all.now in
    let i = c.loop-one.one-index in
    let s = c.one-item.result in
    let more = drop (i + 1) all in
    let given = meant_part_of c.loop-one.given in
    let old = both c.args.names.now c.args.script.now in
    let mid = both c.loop-one.names c.loop-one.script in
    let new = both c.do_stmt.new.names c.do_stmt.new.script in
    let before = left_as (all_done w all) (part.all_after w given (drop i all)) (done w s >>= (λ y. part.all_after w y more)) old mid
    (λ u. ap (λ ss. part.all_after w given ss u) (next_item all i s (omega arith) c.one-item.is) ∙ ap (λ p. p u) (after_is w given s more)) (c.loop-one.invariant w h) in
    left_after meant_part_of (all_done w all) (done w s) (λ y. part.all_after w y more) old mid new c.in_ok-given.given before (c.in_ok-given.ensures w h)

pub do_stmts-returns : goal.do_stmts-returns
do_stmts-returns t c = λ w h.
    let all = c.args.all.now in
    let i = c.loop-one.one-index in
    let given = c.loop-one.given in
    let old = both c.args.names.now c.args.script.now in
    let here = both c.loop-one.names c.loop-one.script in
    none_left meant_part_of (all_done w all) old here given
    (left_as (all_done w all) (part.all_after w (meant_part_of given) (drop i all)) (pure (meant_part_of given)) old here
    (λ u. ap (λ ss. part.all_after w (meant_part_of given) ss u) (none_behind all i (omega arith))) (c.loop-one.invariant w h))

pub do_form-returns-in-Let : goal.do_form-returns-in-Let
do_form-returns-in-Let t c = λ w h.
    let n = c.in-Let.name in
    let rs = c.in-Let.field-1 in
    let v = c.in-Let.value in
    let old = both c.args.names.now c.args.script.now in
    let new = both c.do_let.new.names c.do_let.new.script in
    let r = c.do_let.result in
    let named = subst (λ m. Does meant_part_of (part.let_done w m v) old r new) c.as_slice.ensures (c.do_let.ensures w h) in
    subst (λ (f : StmtNode). Does meant_part_of (form_done w (stmt_form f)) old r new) (sym c.in-Let.is)
    (subst (λ p. Does meant_part_of p old r new) (let_is w n rs v) named)

pub do_form-returns-in-Erase : goal.do_form-returns-in-Erase
do_form-returns-in-Erase t c = λ w h.
    subst (λ (f : StmtNode). Does meant_part_of (form_done w (stmt_form f)) (both c.args.names.now c.args.script.now) c.do_erase.result (both c.args.names.now c.do_erase.new.script)) (sym c.in-Erase.is) (c.do_erase.ensures w h)

pub do_form-returns-in-Replace : goal.do_form-returns-in-Replace
do_form-returns-in-Replace t c = λ w h.
    subst (λ (f : StmtNode). Does meant_part_of (form_done w (stmt_form f)) (both c.args.names.now c.args.script.now) c.do_replace.result (both c.args.names.now c.do_replace.new.script)) (sym c.in-Replace.is) (c.do_replace.ensures w h)

pub do_form-returns-in-Plain : goal.do_form-returns-in-Plain
do_form-returns-in-Plain t c = λ w h.
    subst (λ (f : StmtNode). Does meant_part_of (form_done w (stmt_form f)) (both c.args.names.now c.args.script.now) c.do_plain.result (both c.args.names.now c.do_plain.new.script)) (sym c.in-Plain.is) (c.do_plain.ensures w h)

pub do_erase-returns : goal.do_erase-returns
do_erase-returns t c = λ w h.
    let x = c.in_ok-x.x in
    let names = c.args.names.now in
    let old = both names c.args.script.now in
    let mid = both names c.evaluate.new.script in
    let new = both names c.act.new.self in
    then_gave meant_part_of meant_part_of (evaluated w c.args.x.now None) (λ y. act (erases y.is) >> pure no_part) old mid new x c.none.result (c.in_ok-x.ensures w h)
    (then_gave (λ u. u) meant_part_of (act (erases (part_of x.is))) (λ _. pure no_part) mid new new c.in_ok-act.field-0 c.none.result (c.in_ok-act.ensures names) (λ u i. (c.none.ensures, i)))

pub evaluate_all-evaluate-requires : goal.evaluate_all-evaluate-requires
evaluate_all-evaluate-requires t c =
    (omega (arith, c.decreases, expr_item c.args.all.now c.loop-argument.argument-index c.argument-item.result (omega arith) c.argument-item.is), tt)

pub evaluate_all-loop-argument-preserved : goal.evaluate_all-loop-argument-preserved
evaluate_all-loop-argument-preserved t c = λ w h.
    let all = c.args.all.now in
    let i = c.loop-argument.argument-index in
    let x = c.argument-item.result in
    let names = c.args.names.now in
    let old = both names c.args.script.now in
    let mid = both names c.loop-argument.script in
    let new = both names c.evaluate.new.script in
    one_read meant_part_of (λ x. evaluated w x None) (λ xs. all_evaluated w (exprs xs)) (λ y ys. refl) all i x c.loop-argument.found c.push.new.self c.in_ok-evaluate.field-0 old mid new
    (next_item all i x (omega arith) c.argument-item.is) c.in_ok-push.ensures.ok (c.loop-argument.invariant w h) (c.in_ok-evaluate.ensures w h)

pub evaluate_all-returns : goal.evaluate_all-returns
evaluate_all-returns t c = λ w h.
    let all = c.args.all.now in
    let i = c.loop-argument.argument-index in
    let names = c.args.names.now in
    read_all meant_part_of (λ x. evaluated w x None) (λ xs. all_evaluated w (exprs xs)) refl all i c.loop-argument.found (both names c.args.script.now) (both names c.loop-argument.script) (none_behind all i (omega arith)) (c.loop-argument.invariant w h)

pub evaluate_operand_list-evaluate_operand-requires : goal.evaluate_operand_list-evaluate_operand-requires
evaluate_operand_list-evaluate_operand-requires t c =
    (omega (arith, c.decreases, expr_item c.args.all.now c.loop-x.x-index c.x-item.result (omega arith) c.x-item.is), tt)

pub evaluate_operand_list-loop-x-preserved : goal.evaluate_operand_list-loop-x-preserved
evaluate_operand_list-loop-x-preserved t c = λ w h.
    let all = c.args.all.now in
    let i = c.loop-x.x-index in
    let x = c.x-item.result in
    let names = c.args.names.now in
    let old = both names c.args.script.now in
    let mid = both names c.loop-x.script in
    let new = both names c.evaluate_operand.new.script in
    one_read part_of (part.operand_made w) (λ xs. operand_list w (exprs xs)) (λ y ys. refl) all i x c.loop-x.found c.push.new.self c.in_ok-evaluate_operand.field-0 old mid new
    (next_item all i x (omega arith) c.x-item.is) c.in_ok-push.ensures.ok (c.loop-x.invariant w h) (c.in_ok-evaluate_operand.ensures w h)

pub evaluate_operand_list-returns : goal.evaluate_operand_list-returns
evaluate_operand_list-returns t c = λ w h.
    let all = c.args.all.now in
    let i = c.loop-x.x-index in
    let names = c.args.names.now in
    read_all part_of (part.operand_made w) (λ xs. operand_list w (exprs xs)) refl all i c.loop-x.found (both names c.args.script.now) (both names c.loop-x.script) (none_behind all i (omega arith)) (c.loop-x.invariant w h)

pub evaluate_entries-evaluate_entry-requires : goal.evaluate_entries-evaluate_entry-requires
evaluate_entries-evaluate_entry-requires t c =
    (omega (arith, c.decreases, entry_item c.args.all.now c.loop-entry.entry-index c.entry-item.result (omega arith) c.entry-item.is), tt)

pub evaluate_entries-loop-entry-preserved : goal.evaluate_entries-loop-entry-preserved
evaluate_entries-loop-entry-preserved t c = λ w h.
    let all = c.args.all.now in
    let i = c.loop-entry.entry-index in
    let x = c.entry-item.result in
    let names = c.args.names.now in
    let old = both names c.args.script.now in
    let mid = both names c.loop-entry.script in
    let new = both names c.evaluate_entry.new.script in
    one_read named_part_of (entry_evaluated w) (λ es. entries_evaluated w (entries es)) (λ y ys. refl) all i x c.loop-entry.found c.push.new.self c.in_ok-evaluate_entry.field-0 old mid new
    (next_item all i x (omega arith) c.entry-item.is) c.in_ok-push.ensures.ok (c.loop-entry.invariant w h) (c.in_ok-evaluate_entry.ensures w h)

pub evaluate_entries-returns : goal.evaluate_entries-returns
evaluate_entries-returns t c = λ w h.
    let all = c.args.all.now in
    let i = c.loop-entry.entry-index in
    let names = c.args.names.now in
    read_all named_part_of (entry_evaluated w) (λ es. entries_evaluated w (entries es)) refl all i c.loop-entry.found (both names c.args.script.now) (both names c.loop-entry.script) (none_behind all i (omega arith)) (c.loop-entry.invariant w h)

pub evaluate_replacement_list-evaluate_replacement-requires : goal.evaluate_replacement_list-evaluate_replacement-requires
evaluate_replacement_list-evaluate_replacement-requires t c =
    (omega (arith, c.decreases, expr_item c.args.all.now c.loop-x.x-index c.x-item.result (omega arith) c.x-item.is), tt)

pub evaluate_replacement_list-loop-x-preserved : goal.evaluate_replacement_list-loop-x-preserved
evaluate_replacement_list-loop-x-preserved t c = λ w h.
    let all = c.args.all.now in
    let i = c.loop-x.x-index in
    let x = c.x-item.result in
    let names = c.args.names.now in
    let old = both names c.args.script.now in
    let mid = both names c.loop-x.script in
    let new = both names c.evaluate_replacement.new.script in
    one_read part_of (replacement w None) (replacement_list w) (λ y ys. refl) all i x c.loop-x.found c.push.new.self c.in_ok-evaluate_replacement.field-0 old mid new
    (next_item all i x (omega arith) c.x-item.is) c.in_ok-push.ensures.ok (c.loop-x.invariant w h) (c.in_ok-evaluate_replacement.ensures w h)

pub evaluate_replacement_list-returns : goal.evaluate_replacement_list-returns
evaluate_replacement_list-returns t c = λ w h.
    let all = c.args.all.now in
    let i = c.loop-x.x-index in
    let names = c.args.names.now in
    read_all part_of (replacement w None) (replacement_list w) refl all i c.loop-x.found (both names c.args.script.now) (both names c.loop-x.script) (none_behind all i (omega arith)) (c.loop-x.invariant w h)

pub evaluate_type_list-evaluate-requires : goal.evaluate_type_list-evaluate-requires
evaluate_type_list-evaluate-requires t c =
    (omega (arith, c.decreases, expr_item c.args.all.now c.loop-x.x-index c.x-item.result (omega arith) c.x-item.is), tt)

pub evaluate_type_list-loop-x-preserved : goal.evaluate_type_list-loop-x-preserved
evaluate_type_list-loop-x-preserved t c = λ w h.
    let all = c.args.all.now in
    let i = c.loop-x.x-index in
    let x = c.x-item.result in
    let y = c.in_ok-ty.ty in
    let names = c.args.names.now in
    let old = both names c.args.script.now in
    let mid = both names c.loop-x.script in
    let new = both names c.evaluate.new.script in
    one_read part_of (part.type_made w) (λ xs. type_list w (exprs xs)) (λ z zs. refl) all i x c.loop-x.found c.push.new.self y.is old mid new
    (next_item all i x (omega arith) c.x-item.is) c.in_ok-push.ensures.ok (c.loop-x.invariant w h)
    (then_gave meant_part_of part_of (evaluated w x None) (λ z. pure z.is) mid new new y y.is (c.in_ok-ty.ensures w h) (gave part_of y.is new))

pub evaluate_type_list-returns : goal.evaluate_type_list-returns
evaluate_type_list-returns t c = λ w h.
    let all = c.args.all.now in
    let i = c.loop-x.x-index in
    let names = c.args.names.now in
    read_all part_of (part.type_made w) (λ xs. type_list w (exprs xs)) refl all i c.loop-x.found (both names c.args.script.now) (both names c.loop-x.script) (none_behind all i (omega arith)) (c.loop-x.invariant w h)
