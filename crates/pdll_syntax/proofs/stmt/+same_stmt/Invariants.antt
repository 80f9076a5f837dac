use Rattle.std.proofs.Common.{◌≡◌, ◌≤◌, ◌-◌, length, drop}
use Rattle.pdll_syntax.specs.Equal.{stmts_eq}
use Rattle.pdll_syntax.specs.StmtTree.{stmts}
use Rattle.pdll_syntax.specs.StmtSize.{stmt_size, stmt_form_size, stmts_size}
use Rattle.pdll_syntax.specs.StmtView.{stmt_form}
use Rattle.pdll_syntax.proofs.stmt.+same_stmt.Given as goal

abbrev pub invariant-same_stmts-loop-at : goal.invariant-same_stmts-loop-at
invariant-same_stmts-loop-at l =
    (l.at ≤ length l.a) × (l.at ≤ length l.b) × (stmts_eq (stmts (drop l.at l.a)) (stmts (drop l.at l.b)) ≡ stmts_eq (stmts l.a) (stmts l.b))

abbrev pub decreases-same_stmts-loop-at : goal.decreases-same_stmts-loop-at
decreases-same_stmts-loop-at l = length l.a - l.at

abbrev pub decreases-same_stmt : goal.decreases-same_stmt
decreases-same_stmt l = stmt_size l.x.now

abbrev pub decreases-same_stmt_form : goal.decreases-same_stmt_form
decreases-same_stmt_form l = stmt_form_size (stmt_form l.x.now)

abbrev pub decreases-same_stmts : goal.decreases-same_stmts
decreases-same_stmts l = stmts_size (stmts l.a.now)
