use Rattle.pdll_expand.proofs.Loops.{Mapped}
use Rattle.pdll_expand.proofs.calls.kinds.Given as goal

abbrev pub invariant-loop-x : goal.invariant-loop-x
invariant-loop-x l = Mapped (λ x. x.kind) l.arguments l.x-index l.found
