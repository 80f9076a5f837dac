use Rattle.pdll_patterns.proofs.Loops.{Mapped}
use Rattle.pdll_patterns.proofs.natives.parts_of.Given as goal

abbrev pub invariant-loop-x : goal.invariant-loop-x
invariant-loop-x l = Mapped (λ x. x.is) l.all l.x-index l.parts
