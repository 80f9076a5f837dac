use Rattle.std.proofs.Common.{◌≡◌, drop, map}
use Rattle.pdll_expand.specs.View.{demand_of}
use Rattle.pdll_expand.specs.Marking.{highest_in}
use Rattle.pdll_expand.proofs.marks.highest_of_demands.Given as goal

abbrev pub invariant-loop-demand : goal.invariant-loop-demand
invariant-loop-demand l = highest_in (map demand_of (drop l.demand-index l.demands)) l.highest ≡ highest_in (map demand_of l.demands) l.fn.highest
