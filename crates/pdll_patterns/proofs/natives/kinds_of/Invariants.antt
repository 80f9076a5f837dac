use Rattle.pdll_patterns.proofs.Loops.{Mapped}
use Rattle.pdll_patterns.proofs.natives.kinds_of.Given as goal

abbrev pub invariant-loop-x : goal.invariant-loop-x
invariant-loop-x l = Mapped (λ x. x.kind) l.all l.x-index l.kinds
