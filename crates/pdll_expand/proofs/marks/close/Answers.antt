use Rattle.std.proofs.Common.{◌-◌, ◌<◌, suc, cond, map, length, ap, sym, subst}
use Rattle.std.specs.Prelude.{nat_lt}
use Rattle.pdll_expand.specs.View.{demand_of}
use Rattle.pdll_expand.specs.Marking.{marks_in, IsGrown}
use Rattle.pdll_expand.proofs.Marking.{fewer_wanted, closed_there, passed_grown, grown_on}
use Rattle.pdll_expand.proofs.marks.close.Goals as goal

pub loop-grows-smaller : goal.loop-grows-smaller
loop-grows-smaller c =
    let ds = map demand_of c.args.demands.now in
    let old = c.loop-grows.marks in
    let new = c.pass.new.marks in
    subst (λ g. cond (nat_lt c.count-before.result c.count.result) (suc (length new - marks_in new)) 0 < cond g (suc (length old - marks_in old)) 0) (sym c.loop-grows-test.true)
    (fewer_wanted ds old new c.count-before.result c.count.result c.pass.ensures c.count-before.ensures c.count.ensures)

pub loop-grows-preserved : goal.loop-grows-preserved
loop-grows-preserved c =
    let ds = map demand_of c.args.demands.now in
    let old = c.loop-grows.marks in
    let new = c.pass.new.marks in
    record {
      grown = grown_on ds c.args.marks.now old new c.loop-grows.invariant.grown (subst (IsGrown ds old) (sym c.pass.ensures) (passed_grown ds old));
      closed = λ h. closed_there ds old new c.count-before.result c.count.result c.pass.ensures c.count-before.ensures c.count.ensures h;
    }
