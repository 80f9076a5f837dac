use Rattle.std.proofs.Common.{take, length, ap, arith}
use Rattle.std.specs.List.{flat_map}
use Rattle.std.proofs.lemmas.List.{length-drop}
use Rattle.mlir_print.specs.Text.{byte_text}
use Rattle.mlir_print.proofs.Printing.{prints_then, prints_as}
use Rattle.mlir_print.proofs.Runs.{tail_is, text_rest}
use Rattle.mlir_print.proofs.string.put_bytes.Goals as goal

pub loop-at-preserved : goal.loop-at-preserved
loop-at-preserved g c =
    let bytes = c.args.bytes.now in
    let at = c.loop-at.at in
    let n = c.put_run-at.result in
    let run = prints_as _ _ _ _ _ _ c.put_run-at.ensures.text (ap (λ l. flat_map byte_text (take n l)) (tail_is bytes at)) in (
      omega (arith, c.put_run-at.ensures.within, ap length (tail_is bytes at), length-drop at bytes, c.loop-at.invariant.0),
      λ is s more. c.loop-at.invariant.1 is s (prints_as _ is _ s _ _ (prints_then _ _ is _ _ s _ _ run more) (text_rest bytes at n)),
    )
