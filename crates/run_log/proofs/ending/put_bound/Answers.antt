use Rattle.run_model.specs.LogText.{ending_line}
use Rattle.mlir_print.proofs.Printing.{prints_then, prints_as}
use Rattle.run_log.proofs.ending.put_bound.Goals as goal

pub returns : goal.returns
unfolding ending_line
returns g c =
    let kind = prints_as _ _ _ _ _ _ c.put-2.ensures c.bound_text.ensures in
    prints_then _ _ _ _ _ _ _ _ c.put.ensures (prints_then _ _ _ _ _ _ _ _ kind (prints_then _ _ _ _ _ _ _ _ c.put-3.ensures
    (prints_then _ _ _ _ _ _ _ _ c.put_number.ensures (prints_then _ _ _ _ _ _ _ _ c.put_place.ensures c.put-4.ensures))))
