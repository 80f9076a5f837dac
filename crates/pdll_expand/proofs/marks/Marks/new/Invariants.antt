use Rattle.std.proofs.Common.{◌≡◌, false, replicate}
use Rattle.pdll_expand.proofs.marks.Marks.new.Given as goal

abbrev pub invariant-loop : goal.invariant-loop
invariant-loop l = l.bits ≡ replicate l.counter false
