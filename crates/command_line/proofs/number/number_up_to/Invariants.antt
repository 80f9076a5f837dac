use Rattle.std.proofs.Common.{◌≡◌, ◌≤◌, drop}
use Rattle.command_line.specs.Command as spec
use Rattle.command_line.proofs.number.number_up_to.Given as goal

abbrev pub invariant-loop-b : goal.invariant-loop-b
invariant-loop-b l = (spec.number_up_to l.most l.word ≡ spec.spelled_up_to l.most l.number (drop l.b-index l.word)) × (l.number ≤ l.most)
