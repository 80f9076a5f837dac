use Rattle.std.proofs.Common.{◌∙◌, inl, inr, arith}
use Rattle.pdll_syntax.specs.StmtSize.{stmt_item}
use Rattle.pdll_syntax.proofs.Ends.{stmts_end}
use Rattle.pdll_syntax.proofs.stmt.+same_stmt.Goals as goal
use Rattle.pdll_syntax.proofs.stmt.+same_stmt.Goals.{same_stmts-then-loop-at-test+else-at-b, same_stmts-else-loop-at-test}

pub same_stmts-same_stmt-requires : goal.same_stmts-same_stmt-requires
same_stmts-same_stmt-requires t c =
    (omega (arith, c.decreases, stmt_item c.args.a.now c.loop-at.at c.index-a-at.result (omega arith) c.index-a-at.is), tt)

pub same_stmts-returns : goal.same_stmts-returns
same_stmts-returns t c =
    elim c.loop-at-test.branch [
      | same_stmts-then-loop-at-test+else-at-b w ↦ stmts_end c.args.a.now c.args.b.now c.loop-at.at (omega arith) (omega arith) (inr (omega arith)) ∙ c.loop-at.invariant.2
      | same_stmts-else-loop-at-test w ↦ stmts_end c.args.a.now c.args.b.now c.loop-at.at (omega arith) (omega arith) (inl (omega arith)) ∙ c.loop-at.invariant.2
    ]
