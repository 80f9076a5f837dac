use Rattle.std.proofs.Common.{drop, map}
use Rattle.std.specs.Prelude.{◌↔◌}
use Rattle.std.specs.List.{AllByRecursion}
use Rattle.rewrite_model.specs.Holding.{Holds}
use Rattle.pdll_expand.specs.View.{demand_of}
use Rattle.row_matcher.specs.View.{thing_of}
use Rattle.row_matcher.proofs.matching.all_hold.Given as goal

abbrev pub invariant-loop-demand : goal.invariant-loop-demand
invariant-loop-demand l =
    AllByRecursion (Holds l.rows (map thing_of l.given)) (map demand_of l.demands)
    ↔ AllByRecursion (Holds l.rows (map thing_of l.given)) (map demand_of (drop l.demand-index l.demands))
