use Rattle.std.proofs.Common.{[], drop, ◌+◌, get_or, ap, arith, subst}
use Rattle.native_set.specs.declared.native.Kind.TheVariants.{Value}
use Rattle.rewrite_model.specs.Pattern.{result}
use Rattle.rewrite_model.specs.Doing.{◌>>=◌}
use Rattle.rewrite_model.specs.MatchPart.{mention, number_of}
use Rattle.pdll_expand.specs.View.{meant_of}
use Rattle.pdll_expand.specs.Scenes.{Gave}
use Rattle.pdll_expand.specs.Reading.{members_read}
use Rattle.pdll_expand.proofs.Loops.{next_number, none_behind}
use Rattle.pdll_expand.proofs.Steps.{left_as, left_after, none_left, all_left}
use Rattle.pdll_expand.proofs.expressions.read_members.Goals as goal

pub loop-member-init : goal.loop-member-init
loop-member-init c = all_left (members_read c.args.members.now (meant_of c.args.x)) c.args.scene.now

pub loop-member-preserved : goal.loop-member-preserved
loop-member-preserved c =
    let ks = c.args.members.now in
    let i = c.loop-member.member-index in
    let k = get_or ks i 0 in
    let more = drop (i + 1) ks in
    let m = meant_of c.loop-member.x in
    let old = c.args.scene.now in
    let mid = c.loop-member.scene in
    let new = c.mention.new.self in
    let whole = members_read ks (meant_of c.args.x) in
    let step = mention Value (result (number_of m.is) k) in
    let fact = subst (λ n. Gave meant_of (mention Value (result n k)) mid c.in_ok-x.x new) c.number.ensures c.in_ok-x.ensures in
    let before = left_as whole (members_read (drop i ks) m) (step >>= members_read more) old mid (λ u. ap (λ js. members_read js m u) (next_number ks i (omega arith))) c.loop-member.invariant in
    left_after meant_of whole step (members_read more) old mid new c.in_ok-x.x before fact

pub returns : goal.returns
returns c =
    let ks = c.args.members.now in
    let x = c.loop-member.x in
    let whole = members_read ks (meant_of c.args.x) in
    none_left meant_of whole c.args.scene.now c.loop-member.scene x
    (left_as whole (members_read (drop c.loop-member.member-index ks) (meant_of x)) (members_read [] (meant_of x)) c.args.scene.now c.loop-member.scene
    (λ u. ap (λ js. members_read js (meant_of x) u) (none_behind ks c.loop-member.member-index (omega arith))) c.loop-member.invariant)
