use Rattle.std.proofs.Common.{◌≡◌}
use Rattle.pdll_types.specs.Open.{least_open}
use Rattle.pdll_types.proofs.opened.least_open.Given as goal

abbrev pub invariant-loop-number : goal.invariant-loop-number
invariant-loop-number l = l.least ≡ least_open l.own.scene.kinds l.own.scene.places l.marks l.number
