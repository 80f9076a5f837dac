-- Each statement inside a statement has fewer nodes.
use Rattle.std.specs.Prelude.{◌≤◌, ◌+◌, max}
use Rattle.std.proofs.Common.{arith}
use Rattle.pdll_syntax.specs.declared.stmt.StmtForm.{StmtForm}
use Rattle.pdll_syntax.specs.declared.stmt.StmtForm.TheVariants.{Let, Erase, Return, Replace, Rewrite, Plain}
use Rattle.pdll_syntax.specs.declared.stmt.Stmt.TheDeep.{deep-StmtForm}
use Rattle.pdll_syntax.specs.StmtSize.{stmt_form_size, most_stmts}
use Rattle.pdll_syntax.specs.StmtView.{stmt_form}

pub form_falls : (f : StmtForm) → max (deep-StmtForm f) 0 ≤ stmt_form_size (stmt_form f) + 1
form_falls (Let n rs x) = omega arith
form_falls (Erase x) = omega arith
form_falls (Return x) = omega arith
form_falls (Replace x vs) = omega arith
form_falls (Rewrite x ss end) = omega (arith, most_stmts ss)
form_falls (Plain x) = omega arith
