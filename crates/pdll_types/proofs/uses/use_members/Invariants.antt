use Rattle.std.proofs.Common.{◌≡◌}
use Rattle.pdll_types.specs.Asking.{asked_of}
use Rattle.pdll_types.specs.Walk.{members_walked, asked_after}
use Rattle.pdll_types.proofs.uses.use_members.Given as goal

abbrev pub invariant-loop-member : goal.invariant-loop-member
invariant-loop-member l =
    (l.walk ≡ members_walked (asked_of l.fn.asked) l.at l._member-index l.fn.walk) × (asked_of l.asked ≡ asked_after (asked_of l.fn.asked) l._member-index)
