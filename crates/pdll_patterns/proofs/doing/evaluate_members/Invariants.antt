use Rattle.std.proofs.Common.{drop}
use Rattle.pdll_patterns.specs.declared.names.Names.{Names}
use Rattle.pdll_patterns.specs.View.{meant_part_of}
use Rattle.pdll_patterns.specs.Evaluating.{members_made}
use Rattle.pdll_patterns.proofs.Steps.{both, Left}
use Rattle.pdll_patterns.proofs.doing.evaluate_members.Given as goal

abbrev pub invariant-loop-member : goal.invariant-loop-member
invariant-loop-member l = (names : Names) →
    Left (members_made l.members (meant_part_of l.fn.x)) (members_made (drop l.member-index l.members) (meant_part_of l.x)) (both names l.fn.script) (both names l.script)
