use Rattle.std.proofs.Common.{◌∙◌}
use Rattle.pdll_syntax.specs.ExprTree.{maybe_expr}
use Rattle.pdll_types.proofs.Loops.{kind_with_refs}
use Rattle.pdll_types.proofs.statements.kind_of_variable.Goals as goal

pub returns-then-all-gt0 : goal.returns-then-all-gt0
returns-then-all-gt0 c = c.requires ∙ kind_with_refs c.args.table.now c.args.sight.now c.args.all.now (maybe_expr c.args.value.now) c.if-all-gt0.true
