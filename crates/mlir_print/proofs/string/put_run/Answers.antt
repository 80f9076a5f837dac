use Rattle.std.proofs.Common.{◌++◌, ◌<◌, length, get_or, sym, ◌∙◌, arith}
use Rattle.mlir_print.specs.Text.{byte_text}
use Rattle.mlir_print.proofs.Printing.{prints_then, prints_as}
use Rattle.mlir_print.proofs.Runs.{text_more}
use Rattle.mlir_print.proofs.string.put_run.Goals as goal

pub returns-clause-text : goal.returns-clause-text
returns-clause-text g c =
    let bytes = c.args.bytes.now in
    let n = c.plain_len-len.result in
    let less : n < length bytes = omega (arith, c.if-len-bytes.false, c.plain_len-len.ensures.within) in
    prints_as _ _ _ _ _ _ (prints_then _ _ _ _ _ _ _ _ c.put.ensures c.put_byte.ensures)
    ((λ i. sym c.plain_len-len.ensures.themselves i ++ byte_text (get_or bytes n 0)) ∙ sym (text_more bytes n 0 less))
