use Rattle.std.proofs.Common.{◌≤◌, map, drop, length}
use Rattle.rewrite_model.specs.Names.{named_together}
use Rattle.rewrite_model.specs.Expanding.{param_names}
use Rattle.pdll_expand.specs.View.{meant_of}
use Rattle.pdll_expand.specs.Scenes.{AreNames}
use Rattle.pdll_expand.proofs.calls.named_together.Given as goal

abbrev pub invariant-loop-at : goal.invariant-loop-at
invariant-loop-at l = (l.at ≤ length l.params) × AreNames l.names (named_together (param_names (drop l.at l.params)) (map meant_of (drop l.at l.arguments)))

abbrev pub decreases-loop-at : goal.decreases-loop-at
decreases-loop-at l = l.at
