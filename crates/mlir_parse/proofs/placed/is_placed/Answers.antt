use Rattle.std.proofs.Common.{◌∙◌}
use Rattle.mlir_parse.proofs.PlacedEntries.{has_placed}
use Rattle.mlir_parse.proofs.placed.is_placed.Goals as goal

pub returns : goal.returns
returns c = c.contains_key.ensures ∙ has_placed c.args.name.now c.args.found.now.entries
