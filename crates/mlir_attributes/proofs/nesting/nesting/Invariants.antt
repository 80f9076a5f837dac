use Rattle.std.proofs.Common.{◌≡◌, drop}
use Rattle.mlir_attributes.specs.Nesting.{scan_text, scan_start}
use Rattle.mlir_attributes.proofs.nesting.nesting.Given as goal

abbrev pub invariant-loop-at : goal.invariant-loop-at
invariant-loop-at l = scan_text scan_start l.text ≡ scan_text l.scan (drop l.at l.text)
