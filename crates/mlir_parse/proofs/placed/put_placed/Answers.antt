use Rattle.std.proofs.Common.{ap, ◌∙◌}
use Rattle.std.specs.Prelude.{map}
use Rattle.mlir_parse.specs.Entries.{placed_of, put_placed, all_placed}
use Rattle.mlir_parse.proofs.PlacedEntries.{put_named}
use Rattle.mlir_parse.proofs.placed.put_placed.Goals as goal

pub returns : goal.returns
returns c =
    ap (map placed_of) c.in_ok-insert.ensures.entries ∙ (put_named c.args.found.now.entries c.in_ok-key.key (c.args.at, c.args.value)
    ∙ ap (λ n. put_placed n c.args.at c.args.value (all_placed c.args.found.now)) c.in_ok-key.ensures.items)
