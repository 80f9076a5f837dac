use Rattle.std.proofs.Common.{ap, refl, sym, subst}
use Rattle.std.specs.Prelude.{Result}
use Rattle.rw_outside.specs.Puts.{Puts}
use Rattle.rw_outside.specs.declared.sink.Failed.{Failed}
use Rattle.run_model.specs.LogText.{log_text, step_lines, ending_line}
use Rattle.mlir_print.proofs.Printing.{prints_then, prints_as}
use Rattle.run_log.proofs.log.put_log.Goals as goal

pub returns : goal.returns
unfolding log_text
returns g c =
    let run = c.args.run.now in
    let steps = prints_as _ _ _ _ _ _ c.put_steps.ensures (ap (step_lines 1) c.as_slice.ensures) in
    let end = prints_as _ _ _ _ _ _ c.put_ending.ensures (ap (λ n. ending_line n run.ending) c.len.ensures) in
    let all = prints_then _ _ _ _ _ _ _ _ c.put_header.ensures (prints_then _ _ _ _ _ _ _ _ steps end) in
    subst (λ (r : Result (Unit {0}) Failed). Puts (g.S.Sink.state c.args.sink.now) (g.S.Sink.state c.put_ending.new.sink) r (log_text run.taken run.ending)) (sym c.outcome.ensures) (all.put refl)
