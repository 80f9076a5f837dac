use Rattle.std.proofs.Common.{◌≡◌, take}
use Rattle.pdll_parser.specs.Expressions.{index_of}
use Rattle.pdll_parser.proofs.expressions.index_of.Given as goal

abbrev pub invariant-loop-digit : goal.invariant-loop-digit
invariant-loop-digit l = l.number ≡ index_of (take l.digit-index l.digits)
