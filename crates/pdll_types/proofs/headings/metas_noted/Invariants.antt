use Rattle.std.proofs.Common.{◌≡◌, false, drop}
use Rattle.pdll_syntax.specs.declared.fault.PatKind.TheVariants.{Redefined}
use Rattle.pdll_types.specs.Names.{metas_twice}
use Rattle.pdll_types.specs.Accepted.{faults}
use Rattle.pdll_types.specs.Walk.{all_noted}
use Rattle.pdll_types.proofs.headings.metas_noted.Given as goal

abbrev pub invariant-loop-meta : goal.invariant-loop-meta
invariant-loop-meta l =
    all_noted (faults Redefined (metas_twice false false l.metas)) l.fn.least
    ≡ all_noted (faults Redefined (metas_twice l.benefit l.recursion (drop l.meta-index l.metas))) l.least
