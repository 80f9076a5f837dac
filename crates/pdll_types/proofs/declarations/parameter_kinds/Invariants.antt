use Rattle.std.proofs.Common.{◌≡◌, take}
use Rattle.pdll_types.specs.Signatures.{parameter_kinds}
use Rattle.pdll_types.proofs.declarations.parameter_kinds.Given as goal

abbrev pub invariant-loop-param : goal.invariant-loop-param
invariant-loop-param l = l.kinds ≡ parameter_kinds l.table (take l.param-index l.params)
