use Rattle.std.proofs.Common.{◌≡◌, length, arith, ap}
use Rattle.std.proofs.lemmas.Bool.Decides.{nat_tests}
use Rattle.mlir_print.specs.Text.{name_text, more_symbols_text}
use Rattle.mlir_print.proofs.Printing.{prints_then, prints_as, prints_none}
use Rattle.mlir_print.proofs.Lists.{symbols_none, symbols_first}
use Rattle.mlir_print.proofs.attr.put_symbols.Goals as goal

pub returns-then-is_empty : goal.returns-then-is_empty
returns-then-is_empty g c =
    let none : length c.args.names.now ≡ 0 = grind (arith, nat_tests) in
    prints_as _ _ _ _ _ _ (prints_none _ _) (symbols_none c.args.names.now none)

pub returns : goal.returns
returns g c =
    let named = prints_as _ _ _ _ _ _ c.put_name.ensures (ap name_text c.as_slice.ensures) in
    prints_as _ _ _ _ _ _
    (prints_then _ _ _ _ _ _ _ _ c.put.ensures (prints_then _ _ _ _ _ _ _ _ named (prints_as _ _ _ _ _ _ c.put_more_symbols.ensures (ap more_symbols_text c.split_at.ensures.back))))
    (symbols_first c.args.names.now c.index-names-0.result (grind (arith, nat_tests)) c.index-names-0.is)
