use Rattle.std.proofs.Common.{◌≡◌, take}
use Rattle.pdll_syntax.specs.ExprTree.{refs}
use Rattle.rewrite_model.specs.Size as spec
use Rattle.pdll_sizes.specs.Capped.{capped_size}
use Rattle.pdll_sizes.specs.Members.{total}
use Rattle.pdll_sizes.proofs.declarations.params_size.Given as goal

abbrev pub invariant-loop-param : goal.invariant-loop-param
invariant-loop-param l = l.size ≡ capped_size (total (λ p. spec.refs_size (spec.sizes l.earlier) (refs p.refs)) (take l.param-index l.params))
