use Rattle.std.proofs.Common.{◌≡◌, ◌-◌}
use Rattle.mlir_attributes.specs.Attributes.{attr}
use Rattle.mlir_parse.specs.Entries.{placed_entries, all_placed_entries, all_placed}
use Rattle.mlir_parse.proofs.placed.placed_entries.Given as goal

abbrev pub invariant-loop-turn : goal.invariant-loop-turn
invariant-loop-turn l = all_placed_entries (attr l.aliases l.room) l.fn.reader ≡ placed_entries (attr l.aliases l.room) (l._turn-end - l._turn) (all_placed l.found) l.reader
