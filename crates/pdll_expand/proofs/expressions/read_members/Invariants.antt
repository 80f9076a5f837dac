use Rattle.std.proofs.Common.{drop}
use Rattle.pdll_expand.specs.View.{meant_of}
use Rattle.pdll_expand.specs.Reading.{members_read}
use Rattle.pdll_expand.proofs.Steps.{Left}
use Rattle.pdll_expand.proofs.expressions.read_members.Given as goal

abbrev pub invariant-loop-member : goal.invariant-loop-member
invariant-loop-member l =
    Left (members_read l.members (meant_of l.fn.x)) (members_read (drop l.member-index l.members) (meant_of l.x)) l.fn.scene l.scene
