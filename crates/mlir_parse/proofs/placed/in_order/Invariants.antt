use Rattle.std.proofs.Common.{◌≡◌, ◌++◌}
use Rattle.std.specs.Prelude.{map}
use Rattle.mlir_parse.specs.Entries.{placed_of, syn_entry}
use Rattle.mlir_parse.proofs.placed.in_order.Given as goal

abbrev pub invariant-loop-name : goal.invariant-loop-name
invariant-loop-name l = l.all ++ map syn_entry (map placed_of l.name-iterator) ≡ map syn_entry (map placed_of l.fn.found.entries)
