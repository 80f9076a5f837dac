use Rattle.std.proofs.Common.{◌≤◌, length, map, drop}
use Rattle.rewrite_model.specs.Names.{named_together}
use Rattle.rewrite_model.specs.Expanding.{param_names}
use Rattle.pdll_patterns.specs.View.{meant_part_of}
use Rattle.pdll_patterns.specs.Scripts.{AreNames}
use Rattle.pdll_patterns.proofs.names.Names.of_params.Given as goal

-- the parameters from here on are in sight
abbrev pub invariant-loop-at : goal.invariant-loop-at
invariant-loop-at l = record {
  params : l.at ≤ length l.params;
  arguments : l.at ≤ length l.arguments;
  seen : AreNames l.names (named_together (param_names (drop l.at l.params)) (map meant_part_of (drop l.at l.arguments)));
}

abbrev pub decreases-loop-at : goal.decreases-loop-at
decreases-loop-at l = l.at
