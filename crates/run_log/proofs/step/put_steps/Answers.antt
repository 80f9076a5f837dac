use Rattle.std.proofs.Common.{arith, sym}
use Rattle.mlir_print.proofs.Printing.{prints_then, prints_as, prints_none}
use Rattle.run_log.proofs.Lines.{lines_more, lines_none}
use Rattle.run_log.proofs.step.put_steps.Goals as goal

pub loop-i-preserved : goal.loop-i-preserved
loop-i-preserved g c = λ is s more.
    c.loop-i.invariant is s (prints_as _ is _ s _ _ (prints_then _ _ is _ _ s _ _ c.put_step.ensures more)
    (lines_more c.args.steps.now c.loop-i.i c.index-steps-i.result c.loop-i-test.true c.index-steps-i.is))

pub returns : goal.returns
returns g c =
    let now = g.S.Sink.state c.loop-i.sink in
    c.loop-i.invariant c.loop-i.ok now
    (prints_as _ _ now now _ _ (prints_none c.loop-i.ok now) (sym (lines_none c.args.steps.now c.loop-i.i (omega arith))))
