use Rattle.std.proofs.Common.{◌≡◌, drop}
use Rattle.pdll_expand.specs.Marking.{marked}
use Rattle.pdll_expand.proofs.marks.mark_all.Given as goal

abbrev pub invariant-loop-number : goal.invariant-loop-number
invariant-loop-number l = marked (drop l.number-index l.numbers) l.marks ≡ marked l.numbers l.fn.marks
