use Rattle.std.proofs.Common.{sym, ◌∙◌}
use Rattle.command_line.proofs.Numbers.{passed_at}
use Rattle.command_line.proofs.number.number_up_to.Goals as goal

pub returns-then-number-most : goal.returns-then-number-most
returns-then-number-most c = passed_at c.args.most c.loop-b.number c.loop-b.b-index 0 c.args.word.now c.loop-b-test.true c.if-number-most.true ∙ sym c.loop-b.invariant.0
