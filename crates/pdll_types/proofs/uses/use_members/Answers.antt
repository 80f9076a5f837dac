use Rattle.std.proofs.Common.{[], ap, ◌∙◌, sym, add-one}
use Rattle.pdll_types.specs.Asking.{asked_of}
use Rattle.pdll_types.specs.Walk.{members_walked, asked_after, step, member_use}
use Rattle.pdll_types.proofs.uses.use_members.Goals as goal

pub loop-member-preserved : goal.loop-member-preserved
loop-member-preserved c =
    let a = asked_of c.args.asked in
    let at = c.args.at in
    let n = c.loop-member._member-index in
    let w = c.args.walk.now in
    let before = c.loop-member.invariant in (
      c.in_ok-use_member.ensures
          ∙ (ap (λ v. step [] (member_use (asked_of c.loop-member.asked) at) v) before.0
          ∙ (ap (λ b. step [] (member_use b at) (members_walked a at n w)) before.1 ∙ ap (λ m. members_walked a at m w) (sym (add-one n)))),
      ap (λ m. asked_after a m) (sym (add-one n)),
    )
