-- Parts of rows that are equal.
use Rattle.std.specs.Prelude.{◌≡◌}
use Rattle.mlir_tree.specs.declared.row.Row.{Row}

-- The same name, operands, types of results, and regions.
abbrev pub HasSignatureOf : Row → Row → Type 0
HasSignatureOf r s = (r.name ≡ s.name) × (r.operands ≡ s.operands) × (r.results ≡ s.results) × (r.regions ≡ s.regions)
