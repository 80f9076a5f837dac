use Rattle.std.proofs.Common.{◌≡◌, drop}
use Rattle.rewrite_model.specs.Expanding.{benefit_of}
use Rattle.pdll_patterns.proofs.pattern.benefit_of.Given as goal

abbrev pub invariant-loop-meta : goal.invariant-loop-meta
invariant-loop-meta l = benefit_of l.metas ≡ benefit_of (drop l.meta-index l.metas)
