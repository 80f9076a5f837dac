use Rattle.std.proofs.Common.{ap, ◌∙◌, subst}
use Rattle.std.specs.Option.{option_and_then}
use Rattle.rewrite_model.specs.declared.run.Break.TheVariants.{Gone}
use Rattle.mlir_tree.specs.Module.{row_of}
use Rattle.rewrite_model.specs.Things.{row_at}
use Rattle.rewrite_model.specs.Making.{or_break}
use Rattle.rewrite_step.specs.Ends.{Ends}
use Rattle.rewrite_step.proofs.progress.Progress.live_row.Goals as goal

pub returns : goal.returns
returns c =
    let rows = c.args.self.now.current.rows in
    let seen = subst (λ rs. Ends (λ r. r.now) (or_break Gone (option_and_then (row_of rs) c.number_of-number.result)) c.live.result) c.as_slice-rows.ensures c.live.ensures in
    subst (λ o. Ends (λ r. r.now) (or_break Gone o) c.live.result) (c.number_of-number.ensures rows ∙ ap (option_and_then (row_at rows)) c.in_ok-part.ensures) seen
