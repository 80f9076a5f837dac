use Rattle.std.proofs.Common.{◌≡◌, ◌-◌}
use Rattle.pdll_syntax.specs.ExprTree.{expr}
use Rattle.pdll_syntax.specs.ExprView.{expr_form, with_members}
use Rattle.pdll_parser.specs.Expressions.{members, all_members}
use Rattle.pdll_parser.proofs.expressions.members.Given as goal

abbrev pub invariant-loop-turn : goal.invariant-loop-turn
invariant-loop-turn l = record {
  same : l.form ≡ l.fn.form;
  reads : all_members l.at (expr l.at (expr_form l.fn.form)) l.fn.reader ≡ members l.at (l._turn-end - l._turn) (expr l.at (with_members l.at (expr_form l.form) l.members)) l.reader;
}
