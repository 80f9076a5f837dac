use Rattle.std.proofs.Common.{◌≡◌}
use Rattle.pdll_sizes.specs.Capped.{capped_size}
use Rattle.pdll_sizes.specs.Members.{just_expressions}
use Rattle.pdll_sizes.proofs.expressions.members_size.Given as goal

abbrev pub invariant-loop-member : goal.invariant-loop-member
invariant-loop-member l = l.size ≡ capped_size (just_expressions l._member-index)
