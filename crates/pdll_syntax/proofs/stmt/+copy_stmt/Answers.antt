use Rattle.std.proofs.Common.{arith}
use Rattle.pdll_syntax.specs.StmtSize.{stmt_item}
use Rattle.pdll_syntax.proofs.stmt.+copy_stmt.Goals as goal

pub copy_stmts-copy-requires : goal.copy_stmts-copy-requires
copy_stmts-copy-requires t c =
    (omega (arith, c.decreases, stmt_item c.args.all.now c.loop-stmt.stmt-index c.stmt-item.result (omega arith) c.stmt-item.is), tt)
