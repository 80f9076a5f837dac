use Rattle.std.proofs.Common.{List, sym, ◌∙◌, subst}
use Rattle.pdll_syntax.specs.StmtTree.{Stmt, stmts_back}
use Rattle.pdll_syntax.specs.StmtView.{stmt_form}
use Rattle.pdll_syntax.specs.declared.stmt.StmtForm.{StmtForm as StmtNode}
use Rattle.rewrite_model.specs.Doing.{pure, ◌>>◌}
use Rattle.rewrite_model.specs.RewritePart.{all_done}
use Rattle.rewrite_model.specs.Expanding.{form_rewrites}
use Rattle.pdll_patterns.specs.View.{part_of, meant_part_of}
use Rattle.pdll_patterns.specs.Scripts.{Gave}
use Rattle.pdll_patterns.proofs.Steps.{both, gave, then_gave}
use Rattle.pdll_patterns.proofs.pattern.rewrite_by_form.Goals as goal

pub returns-in_ok-do_stmts-in-Rewrite : goal.returns-in_ok-do_stmts-in-Rewrite
returns-in_ok-do_stmts-in-Rewrite c = λ w h.
    let old = both c.args.names.now c.args.script.now in
    let new = both c.do_stmts.new.names c.do_stmts.new.script in
    let x = c.in_ok-do_stmts-in-Rewrite.field-0 in
    let ss = c.as_slice.result.now in
    let done = then_gave meant_part_of (λ u. u) (all_done w ss) (λ _. pure tt) old new new x tt (c.in_ok-do_stmts-in-Rewrite.ensures w h) (gave (λ u. u) tt new) in
    subst (λ (f : StmtNode). Gave (λ u. u) (form_rewrites w (part_of c.args.root) (stmt_form f)) old tt new) (sym c.in-Rewrite.is)
    (subst (λ (rs : List Stmt). Gave (λ u. u) (all_done w rs >> pure tt) old tt new) (c.as_slice.ensures ∙ sym (stmts_back c.in-Rewrite.all)) done)
