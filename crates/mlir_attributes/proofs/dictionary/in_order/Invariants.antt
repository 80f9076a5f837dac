use Rattle.std.proofs.Common.{◌≡◌, ◌++◌}
use Rattle.std.specs.Prelude.{map}
use Rattle.mlir_attributes.specs.Dictionary.{entry_of}
use Rattle.mlir_attributes.proofs.dictionary.in_order.Given as goal

abbrev pub invariant-loop-name : goal.invariant-loop-name
invariant-loop-name l = l.all ++ map entry_of l.name-iterator ≡ map entry_of l.fn.found.entries
