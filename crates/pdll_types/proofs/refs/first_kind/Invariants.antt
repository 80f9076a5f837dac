use Rattle.std.proofs.Common.{◌≡◌, drop}
use Rattle.pdll_syntax.specs.ExprTree.{refs}
use Rattle.pdll_types.specs.Signatures.{first_kind}
use Rattle.pdll_types.proofs.refs.first_kind.Given as goal

abbrev pub invariant-loop-kind : goal.invariant-loop-kind
invariant-loop-kind l = first_kind (refs l.all) ≡ first_kind (refs (drop l.kind-index l.all))
