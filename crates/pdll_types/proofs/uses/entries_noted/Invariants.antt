use Rattle.std.proofs.Common.{◌≡◌, [], drop}
use Rattle.pdll_syntax.specs.declared.fault.PatKind.TheVariants.{Redefined}
use Rattle.pdll_syntax.specs.ExprTree.{entries}
use Rattle.pdll_types.specs.Names.{entries_twice}
use Rattle.pdll_types.specs.Accepted.{faults}
use Rattle.pdll_types.specs.Walk.{all_noted}
use Rattle.pdll_types.proofs.uses.entries_noted.Given as goal

abbrev pub invariant-loop-entry : goal.invariant-loop-entry
invariant-loop-entry l =
    all_noted (faults Redefined (entries_twice [] (entries l.all))) l.fn.least
    ≡ all_noted (faults Redefined (entries_twice l.before (entries (drop l.entry-index l.all)))) l.least
