use Rattle.std.proofs.Common.{◌≡◌, drop}
use Rattle.pdll_expand.specs.Marking.{highest}
use Rattle.pdll_expand.proofs.marks.highest_of.Given as goal

abbrev pub invariant-loop-number : goal.invariant-loop-number
invariant-loop-number l = highest (drop l.number-index l.numbers) l.highest ≡ highest l.numbers 0
