use Rattle.run_model.specs.LogText.{ending_line}
use Rattle.mlir_print.proofs.Printing.{prints_then}
use Rattle.run_log.proofs.ending.put_broken.Goals as goal

pub returns : goal.returns
unfolding ending_line
returns g c =
    prints_then _ _ _ _ _ _ _ _ c.put.ensures (prints_then _ _ _ _ _ _ _ _ c.put_number.ensures (prints_then _ _ _ _ _ _ _ _ c.put_place.ensures
    (prints_then _ _ _ _ _ _ _ _ c.put-2.ensures (prints_then _ _ _ _ _ _ _ _ c.put_break.ensures c.put-3.ensures))))
