use Rattle.std.proofs.Common.{◌≡◌, ◌++◌, take}
use Rattle.mlir_attributes.proofs.reader.joined.Given as goal

abbrev pub invariant-loop-b : goal.invariant-loop-b
invariant-loop-b l = l.text ≡ l.front ++ take l.b-index l.back
