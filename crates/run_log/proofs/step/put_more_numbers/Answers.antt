use Rattle.std.proofs.Common.{decimal, arith, sym, ap}
use Rattle.std.proofs.lemmas.List.{at_drop_all}
use Rattle.mlir_print.proofs.Printing.{prints_then, prints_as, prints_none}
use Rattle.run_log.proofs.Lines.{more_numbers, numbers_more}
use Rattle.run_log.proofs.step.put_more_numbers.Goals as goal

pub loop-number-preserved : goal.loop-number-preserved
loop-number-preserved g c = λ is s more.
    let number = prints_as _ _ _ _ _ _ c.put_number.ensures (ap decimal c.from.ensures) in
    c.loop-number.invariant is s (prints_as _ is _ s _ _
    (prints_then _ _ is _ _ s _ _ c.put.ensures (prints_then _ _ is _ _ s _ _ number more))
    (numbers_more c.args.numbers.now c.loop-number.number-index (omega arith)))

pub returns : goal.returns
returns g c =
    let now = g.S.Sink.state c.loop-number.sink in
    c.loop-number.invariant c.loop-number.ok now
    (prints_as _ _ now now _ _ (prints_none c.loop-number.ok now) (sym (at_drop_all more_numbers c.args.numbers.now c.loop-number.number-index (omega arith))))
