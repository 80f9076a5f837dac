use Rattle.std.proofs.Common.{arith}
use Rattle.std.proofs.lemmas.Grind.{common_steps}
use Rattle.pdll_syntax.specs.ExprTree.{expr}
use Rattle.pdll_syntax.specs.ExprView.{expr_form, with_members, with_one_more}
use Rattle.pdll_parser.specs.Expressions.{members}
use Rattle.pdll_parser.proofs.Turns.{one_more}
use Rattle.pdll_parser.proofs.expressions.members.Goals as goal

pub loop-turn-preserved : goal.loop-turn-preserved
unfolding members
loop-turn-preserved c =
    let e = one_more (λ n. members c.args.at n (expr c.args.at (with_members c.args.at (expr_form c.loop-turn.form-1) c.loop-turn.members)) c.loop-turn.reader) _ c.loop-turn._turn c.loop-turn-test.true c.loop-turn.invariant.reads in
    let longer = with_one_more c.args.at (expr_form c.loop-turn.form-1) c.loop-turn.members in
    record { same = c.loop-turn.invariant.same; reads = grind (arith, common_steps) }
