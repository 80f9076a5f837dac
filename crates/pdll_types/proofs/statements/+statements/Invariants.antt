use Rattle.std.proofs.Common.{◌≡◌, drop}
use Rattle.pdll_syntax.specs.StmtTree.{stmts}
use Rattle.pdll_syntax.specs.StmtSize.{stmt_size, stmt_form_size, stmts_size}
use Rattle.pdll_syntax.specs.StmtView.{stmt_form}
use Rattle.pdll_types.specs.Mentions.{of_rewrite}
use Rattle.pdll_types.specs.Walk.{walked}
use Rattle.pdll_types.proofs.statements.+statements.Given as goal

abbrev pub invariant-walk_rewrite-loop-at : goal.invariant-walk_rewrite-loop-at
invariant-walk_rewrite-loop-at l =
    walked l.table (of_rewrite l.table l.result_kind l.gives (stmts l.all)) l.fn.walk
    ≡ walked l.table (of_rewrite l.table l.result_kind l.gives (stmts (drop l.at l.all))) l.walk

abbrev pub decreases-walk_stmt : goal.decreases-walk_stmt
decreases-walk_stmt l = stmt_size l.one.now

abbrev pub decreases-walk_stmt_form : goal.decreases-walk_stmt_form
decreases-walk_stmt_form l = stmt_form_size (stmt_form l.form.now)

abbrev pub decreases-walk_rewrite : goal.decreases-walk_rewrite
decreases-walk_rewrite l = stmts_size (stmts l.all.now)
