use Rattle.std.proofs.Common.{◌≡◌, take}
use Rattle.pdll_syntax.specs.StmtTree.{stmts}
use Rattle.pdll_syntax.specs.StmtSize.{stmt_size, stmt_form_size, stmts_size}
use Rattle.pdll_syntax.specs.StmtView.{stmt_form}
use Rattle.pdll_syntax.proofs.stmt.+copy_stmt.Given as goal

abbrev pub invariant-copy_stmts-loop-stmt : goal.invariant-copy_stmts-loop-stmt
invariant-copy_stmts-loop-stmt l = l.copied ≡ take l.stmt-index l.all

abbrev pub decreases-Stmt::copy : goal.decreases-Stmt::copy
decreases-Stmt::copy l = stmt_size l.self.now

abbrev pub decreases-StmtForm::copy : goal.decreases-StmtForm::copy
decreases-StmtForm::copy l = stmt_form_size (stmt_form l.self.now)

abbrev pub decreases-copy_stmts : goal.decreases-copy_stmts
decreases-copy_stmts l = stmts_size (stmts l.all.now)
