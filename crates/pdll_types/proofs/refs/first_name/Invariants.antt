use Rattle.std.proofs.Common.{◌≡◌, drop}
use Rattle.pdll_syntax.specs.ExprTree.{refs}
use Rattle.pdll_types.specs.Signatures.{first_name}
use Rattle.pdll_types.proofs.refs.first_name.Given as goal

abbrev pub invariant-loop-kind : goal.invariant-loop-kind
invariant-loop-kind l = first_name (refs l.all) ≡ first_name (refs (drop l.kind-index l.all))
