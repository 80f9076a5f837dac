use Rattle.std.proofs.Common.{[], drop, ◌+◌, get_or, ap, arith}
use Rattle.native_set.specs.declared.native.Kind.TheVariants.{Value}
use Rattle.rewrite_model.specs.Pattern.{result_of}
use Rattle.rewrite_model.specs.Doing.{◌>>=◌}
use Rattle.rewrite_model.specs.RewritePart.{make}
use Rattle.pdll_patterns.specs.View.{meant_part_of}
use Rattle.pdll_patterns.specs.Evaluating.{members_made}
use Rattle.pdll_patterns.proofs.Loops.{next_at, none_behind}
use Rattle.pdll_patterns.proofs.Steps.{both, left_as, left_after, none_left, all_left}
use Rattle.pdll_patterns.proofs.doing.evaluate_members.Goals as goal

pub loop-member-init : goal.loop-member-init
loop-member-init c = λ names. all_left (members_made c.args.members.now (meant_part_of c.args.x)) (both names c.args.script.now)

pub loop-member-preserved : goal.loop-member-preserved
loop-member-preserved c = λ names.
    let ks = c.args.members.now in
    let i = c.loop-member.member-index in
    let k = get_or ks i 0 in
    let more = drop (i + 1) ks in
    let m = meant_part_of c.loop-member.x in
    let old = both names c.args.script.now in
    let mid = both names c.loop-member.script in
    let new = both names c.make.new.self in
    let whole = members_made ks (meant_part_of c.args.x) in
    let step = make Value (result_of m.is k) in
    let before = left_as whole (members_made (drop i ks) m) (step >>= members_made more) old mid (λ u. ap (λ js. members_made js m u) (next_at ks i 0 (omega arith))) (c.loop-member.invariant names) in
    left_after meant_part_of whole step (members_made more) old mid new c.in_ok-x.x before (c.in_ok-x.ensures names)

pub returns : goal.returns
returns c = λ names.
    let ks = c.args.members.now in
    let x = c.loop-member.x in
    let old = both names c.args.script.now in
    let here = both names c.loop-member.script in
    let whole = members_made ks (meant_part_of c.args.x) in
    none_left meant_part_of whole old here x
    (left_as whole (members_made (drop c.loop-member.member-index ks) (meant_part_of x)) (members_made [] (meant_part_of x)) old here
    (λ u. ap (λ js. members_made js (meant_part_of x) u) (none_behind ks c.loop-member.member-index (omega arith))) (c.loop-member.invariant names))
