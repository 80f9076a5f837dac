use Rattle.std.proofs.Common.{decimal, ap, arith}
use Rattle.mlir_print.proofs.Printing.{prints_then, prints_as}
use Rattle.mlir_print.proofs.Runs.{tail_is}
use Rattle.run_log.proofs.Lines.{more_numbers, numbers_first}
use Rattle.run_log.proofs.step.put_numbers.Goals as goal

pub returns-in-len1-up : goal.returns-in-len1-up
returns-in-len1-up g c =
    let numbers = c.args.numbers.now in
    let first = prints_as _ _ _ _ _ _ c.put_number.ensures (ap decimal c.from.ensures) in
    let more = prints_as _ _ _ _ _ _ c.put_more_numbers.ensures (ap more_numbers (tail_is numbers 1)) in
    prints_as _ _ _ _ _ _ (prints_then _ _ _ _ _ _ _ _ first more) (numbers_first numbers (omega (arith, c.in-len1-up.len_at_least)))
