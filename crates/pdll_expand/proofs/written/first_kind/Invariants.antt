use Rattle.std.proofs.Common.{◌≡◌, drop}
use Rattle.rewrite_model.specs.Names.{first_kind}
use Rattle.pdll_expand.proofs.written.first_kind.Given as goal

abbrev pub invariant-loop-one : goal.invariant-loop-one
invariant-loop-one l = first_kind l.all ≡ first_kind (drop l.one-index l.all)
