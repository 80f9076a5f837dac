use Rattle.std.proofs.Common.{◌≡◌, ◌++◌, codes, decimal, sym, ap, ◌∙◌}
use Rattle.mlir_print.specs.Numbering.{argument_number}
use Rattle.mlir_print.specs.ModuleText.{place_text, value_text}
use Rattle.mlir_print.proofs.Printing.{prints_then, prints_as}
use Rattle.mlir_print.proofs.value.put_value.Goals as goal

pub returns-in-Res : goal.returns-in-Res
unfolding value_text
returns-in-Res g c =
    let rows = c.args.rows.now in
    let is : codes "%" ++ (decimal c.result_number.result ++ place_text rows c.in-Res.id c.in-Res.place) ≡ value_text rows c.args.value
    = ap (λ n. codes "%" ++ (decimal n ++ place_text rows c.in-Res.id c.in-Res.place)) c.result_number.ensures ∙ ap (value_text rows) (sym c.in-Res.is) in
    prints_as _ _ _ _ _ _ (prints_then _ _ _ _ _ _ _ _ c.put.ensures (prints_then _ _ _ _ _ _ _ _ c.put_count.ensures c.put_place.ensures)) is

pub returns-in-Arg : goal.returns-in-Arg
unfolding value_text
returns-in-Arg g c =
    let rows = c.args.rows.now in
    let is : codes "%arg" ++ decimal c.argument_number.result ≡ value_text rows c.args.value
    = ap (λ n. codes "%arg" ++ decimal n) (c.argument_number.ensures ∙ (λ i. argument_number rows c.in-Arg.id (c.from.ensures i) (c.from-in-Arg.ensures i))) ∙ ap (value_text rows) (sym c.in-Arg.is) in
    prints_as _ _ _ _ _ _ (prints_then _ _ _ _ _ _ _ _ c.put-in-Arg.ensures c.put_number.ensures) is
