use Rattle.std.proofs.Common.{◌≡◌, take}
use Rattle.pdll_syntax.specs.StmtTree.{stmts}
use Rattle.pdll_syntax.specs.StmtSize.{stmt_size, stmt_form_size, stmts_size}
use Rattle.pdll_syntax.specs.StmtView.{stmt_form}
use Rattle.rewrite_model.specs.Size as spec
use Rattle.pdll_sizes.specs.Capped.{capped_size}
use Rattle.pdll_sizes.specs.Members.{total}
use Rattle.pdll_sizes.proofs.statements.+statements.Given as goal

abbrev pub invariant-stmts_size-loop-one : goal.invariant-stmts_size-loop-one
invariant-stmts_size-loop-one l = l.size ≡ capped_size (total (spec.stmt_size (spec.sizes l.earlier)) (take l.one-index l.all))

abbrev pub decreases-stmt_size : goal.decreases-stmt_size
decreases-stmt_size l = stmt_size l.one.now

abbrev pub decreases-stmt_form_size : goal.decreases-stmt_form_size
decreases-stmt_form_size l = stmt_form_size (stmt_form l.form.now)

abbrev pub decreases-stmts_size : goal.decreases-stmts_size
decreases-stmts_size l = stmts_size (stmts l.all.now)
