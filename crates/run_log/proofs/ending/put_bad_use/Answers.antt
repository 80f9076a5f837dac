use Rattle.std.proofs.Common.{decimal, ap, sym, ◌∙◌, append-nil}
use Rattle.mlir_print.proofs.Printing.{prints_then, prints_as}
use Rattle.run_log.proofs.ending.put_bad_use.Goals as goal

pub returns : goal.returns
returns g c =
    let first = prints_as _ _ _ _ _ _ c.put_number.ensures (ap decimal c.from.ensures) in
    let second = prints_as _ _ _ _ _ _ c.put_number-2.ensures (ap decimal c.from-2.ensures ∙ sym (append-nil (decimal c.args.place))) in
    prints_then _ _ _ _ _ _ _ _ c.put.ensures (prints_then _ _ _ _ _ _ _ _ first (prints_then _ _ _ _ _ _ _ _ c.put-2.ensures second))
