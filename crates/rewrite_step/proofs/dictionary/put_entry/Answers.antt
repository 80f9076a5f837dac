use Rattle.std.proofs.Common.{ap, ◌∙◌}
use Rattle.std.specs.Prelude.{map}
use Rattle.mlir_attributes.specs.Dictionary.{entry_of, put_entry, named}
use Rattle.rewrite_step.proofs.Sorting.{put_named}
use Rattle.rewrite_step.proofs.dictionary.put_entry.Goals as goal

pub returns : goal.returns
returns c =
    ap (map entry_of) c.in_ok-insert.ensures.entries ∙ (put_named c.args.found.now.entries c.in_ok-key.key c.args.value
    ∙ ap (λ n. put_entry n c.args.value (named c.args.found.now)) c.in_ok-key.ensures.items)
