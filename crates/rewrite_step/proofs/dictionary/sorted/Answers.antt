use Rattle.std.proofs.Common.{ap, ◌∙◌}
use Rattle.std.specs.Prelude.{map}
use Rattle.mlir_attributes.specs.Dictionary.{entry_of}
use Rattle.rewrite_step.specs.Sorting.{put_all}
use Rattle.rewrite_step.proofs.Sorting.{all_put}
use Rattle.rewrite_step.proofs.dictionary.sorted.Goals as goal

pub returns : goal.returns
returns c =
    c.in_ok-all.ensures ∙ (c.in_ok-put_entries.ensures ∙ (ap (λ es. put_all c.args.entries.now (map entry_of es)) c.new-found.ensures.empty ∙ all_put c.args.entries.now))
