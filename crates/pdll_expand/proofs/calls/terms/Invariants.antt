use Rattle.pdll_expand.proofs.Loops.{Mapped}
use Rattle.pdll_expand.proofs.calls.terms.Given as goal

abbrev pub invariant-loop-x : goal.invariant-loop-x
invariant-loop-x l = Mapped (λ x. x.is) l.arguments l.x-index l.found
