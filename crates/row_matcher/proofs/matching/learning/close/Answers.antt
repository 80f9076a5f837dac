use Rattle.std.proofs.Common.{◌-◌, ◌<◌, suc, cond, map, length, ap, sym, subst, ◌∙◌}
use Rattle.std.specs.Prelude.{nat_lt}
use Rattle.pdll_expand.specs.View.{demand_of}
use Rattle.row_matcher.specs.Learning.{known_of, known_in}
use Rattle.row_matcher.proofs.Learnt.{fewer_wanted, closed_there, reached_on}
use Rattle.row_matcher.proofs.matching.learning.close.Goals as goal

pub loop-grows-smaller : goal.loop-grows-smaller
loop-grows-smaller c =
    let ds = map demand_of c.args.demands.now in
    let old = known_of c.loop-grows.known in
    let new = known_of c.pass.new.known in
    let first = c.count-before.ensures ∙ ap (λ l. known_in (known_of l)) c.as_slice.ensures in
    let last = c.count.ensures ∙ ap (λ l. known_in (known_of l)) c.as_slice-in-loop-grows.ensures in
    subst (λ g. cond (nat_lt c.count-before.result c.count.result) (suc (length new - known_in new)) 0 < cond g (suc (length old - known_in old)) 0) (sym c.loop-grows-test.true)
    (fewer_wanted c.args.rows.now c.args.kinds.now ds old new c.count-before.result c.count.result c.in_ok-pass.ensures first last)

pub loop-grows-preserved : goal.loop-grows-preserved
loop-grows-preserved c =
    let ds = map demand_of c.args.demands.now in
    let old = known_of c.loop-grows.known in
    let new = known_of c.pass.new.known in
    let first = c.count-before.ensures ∙ ap (λ l. known_in (known_of l)) c.as_slice.ensures in
    let last = c.count.ensures ∙ ap (λ l. known_in (known_of l)) c.as_slice-in-loop-grows.ensures in
    record {
      closed = λ h. closed_there c.args.rows.now c.args.kinds.now ds old new c.count-before.result c.count.result c.in_ok-pass.ensures first last h;
      reached = reached_on c.args.rows.now c.args.kinds.now ds (known_of c.args.known.now) old new c.loop-grows.invariant.reached c.in_ok-pass.ensures;
    }
