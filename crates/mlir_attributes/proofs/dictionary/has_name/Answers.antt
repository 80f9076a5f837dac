use Rattle.std.proofs.Common.{◌∙◌}
use Rattle.mlir_attributes.proofs.Entries.{has_named}
use Rattle.mlir_attributes.proofs.dictionary.has_name.Goals as goal

pub returns : goal.returns
returns c = c.contains_key.ensures ∙ has_named c.args.name.now c.args.found.now.entries
