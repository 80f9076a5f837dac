use Rattle.std.proofs.Common.{◌≡◌, false, drop}
use Rattle.pdll_syntax.specs.declared.fault.PatKind.TheVariants.{TwoRanges}
use Rattle.pdll_syntax.specs.ExprTree.{exprs}
use Rattle.pdll_types.specs.KindFaults.{ranges_behind}
use Rattle.pdll_types.specs.Accepted.{faults}
use Rattle.pdll_types.specs.Walk.{all_noted}
use Rattle.pdll_types.proofs.uses.ranges_noted.Given as goal

abbrev pub invariant-loop-x : goal.invariant-loop-x
invariant-loop-x l =
    all_noted (faults TwoRanges (ranges_behind l.table l.walk.sight false (exprs l.all))) l.walk.least
    ≡ all_noted (faults TwoRanges (ranges_behind l.table l.walk.sight l.one (exprs (drop l.x-index l.all)))) l.least
