use Rattle.std.proofs.Common.{decimal, ap, ◌∙◌}
use Rattle.mlir_print.specs.Text.{string_text}
use Rattle.rewrite_model.specs.Taken.{step_of}
use Rattle.run_model.specs.LogText.{numbers_text, step_line}
use Rattle.mlir_print.proofs.Printing.{prints_then, prints_as}
use Rattle.run_log.proofs.Lines.{step_pieces}
use Rattle.run_log.proofs.step.put_step.Goals as goal

pub returns : goal.returns
returns g c =
    let s = c.step.inside in
    let pattern = prints_as _ _ _ _ _ _ c.put_number-2.ensures (ap decimal c.from.ensures) in
    let name = prints_as _ _ _ _ _ _ c.put_string.ensures (ap string_text c.as_slice.ensures) in
    let root = prints_as _ _ _ _ _ _ c.put_number-3.ensures (ap decimal c.from-2.ensures) in
    let made = prints_as _ _ _ _ _ _ c.put_numbers.ensures (ap numbers_text c.as_slice-2.ensures) in
    let removed = prints_as _ _ _ _ _ _ c.put_numbers-2.ensures (ap numbers_text c.as_slice-3.ensures) in
    let end = prints_then _ _ _ _ _ _ _ _ removed c.put-7.ensures in
    let from_made = prints_then _ _ _ _ _ _ _ _ c.put-5.ensures (prints_then _ _ _ _ _ _ _ _ made (prints_then _ _ _ _ _ _ _ _ c.put-6.ensures end)) in
    let from_name = prints_then _ _ _ _ _ _ _ _ name (prints_then _ _ _ _ _ _ _ _ c.put-4.ensures (prints_then _ _ _ _ _ _ _ _ root from_made)) in
    let from_pattern = prints_then _ _ _ _ _ _ _ _ c.put-2.ensures (prints_then _ _ _ _ _ _ _ _ pattern (prints_then _ _ _ _ _ _ _ _ c.put-3.ensures from_name)) in
    prints_as _ _ _ _ _ _ (prints_then _ _ _ _ _ _ _ _ c.put.ensures (prints_then _ _ _ _ _ _ _ _ c.put_number.ensures from_pattern))
    (step_pieces c.args.count (step_of s.pattern s.name s.root s.made s.removed) ∙ ap (step_line c.args.count) c.step.view_is)
