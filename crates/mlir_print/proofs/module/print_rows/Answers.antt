use Rattle.std.proofs.Common.{sym, subst}
use Rattle.mlir_print.specs.Printable.{IsPrintable}
use Rattle.mlir_print.proofs.Printable.{printable}
use Rattle.mlir_print.proofs.module.print_rows.Goals as goal

pub put_row-requires-clause-printable : goal.put_row-requires-clause-printable
put_row-requires-clause-printable g c =
    subst (λ rows. IsPrintable rows c.args.numbers.now) (sym c.as_slice-rows.ensures) (printable c.args.rows.now c.args.numbers.now c.requires.well_formed c.requires.numbers)
