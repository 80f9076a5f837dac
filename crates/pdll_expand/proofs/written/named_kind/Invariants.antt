use Rattle.std.proofs.Common.{◌≡◌, drop}
use Rattle.rewrite_model.specs.Names.{named_kind}
use Rattle.pdll_expand.specs.Table.{param_in}
use Rattle.pdll_expand.proofs.written.named_kind.Given as goal

abbrev pub invariant-loop-one : goal.invariant-loop-one
invariant-loop-one l = named_kind (param_in l.constraints) l.all ≡ named_kind (param_in l.constraints) (drop l.one-index l.all)
