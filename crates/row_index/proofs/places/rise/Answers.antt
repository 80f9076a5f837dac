use Rattle.std.proofs.Common.{arith}
use Rattle.row_index.proofs.Searching.{rise_on, rise_all}
use Rattle.row_index.proofs.places.rise.Goals as goal

pub loop-i-preserved : goal.loop-i-preserved
loop-i-preserved c = rise_on c.args.rows.now c.loop-i.i c.index-rows-i-in-loop-i.result c.index-rows-i.result (omega (arith, c.loop-i.auto.i)) c.loop-i-test.true c.if-rows-i.false c.loop-i.invariant

pub returns : goal.returns
returns c = λ rose. rise_all c.args.rows.now c.loop-i.i c.loop-i-test.false c.loop-i.invariant
