use Rattle.pdll_syntax.specs.Equal.{stmt_eq}
use Rattle.pdll_syntax.proofs.Told.{told, stmt_told, stmt_itself}
use Rattle.pdll_syntax.proofs.stmt.Stmt.equal.Goals as goal

pub returns : goal.returns
returns c = told stmt_eq stmt_told stmt_itself c.args.self.now c.args.other.now c.same_stmt.result c.same_stmt.ensures
