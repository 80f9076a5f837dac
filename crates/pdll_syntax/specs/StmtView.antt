-- What a form of the program stands for, each statement inside seen as what it stands for.
use Rattle.pdll_syntax.specs.StmtTree.{StmtForm, let_stmt, erase_stmt, return_stmt, replace_stmt, rewrite_stmt, plain_stmt, stmts}
use Rattle.pdll_syntax.specs.declared.stmt.StmtForm.{StmtForm as StmtNode}
use Rattle.pdll_syntax.specs.declared.stmt.StmtForm.TheVariants.{Let, Erase, Return, Replace, Rewrite, Plain}

abbrev pub stmt_form : StmtNode → StmtForm
stmt_form (Let n rs x) = let_stmt n rs x
stmt_form (Erase x) = erase_stmt x
stmt_form (Return x) = return_stmt x
stmt_form (Replace x vs) = replace_stmt x vs
stmt_form (Rewrite x ss end) = rewrite_stmt x (stmts ss) end
stmt_form (Plain x) = plain_stmt x
