use Rattle.std.proofs.Common.{map, refl, subst}
use Rattle.rewrite_model.specs.Running.{converges, stays}
use Rattle.pdll_patterns.specs.View.{pattern_of}
use Rattle.greedy_driver.specs.Found.{IsNextFound}
use Rattle.greedy_driver.proofs.turn.go_on.Goals as goal

pub returns-in_err-locate-clause-reached : goal.returns-in_err-locate-clause-reached
returns-in_err-locate-clause-reached c = stays

pub returns-in-None-clause-turn : goal.returns-in-None-clause-turn
returns-in-None-clause-turn c = (refl, converges (subst (IsNextFound c.args.order (map pattern_of c.args.patterns.now) c.args.rows.now.rows) c.in-None.is c.in_ok-locate.ensures))

pub returns-in-None-clause-reached : goal.returns-in-None-clause-reached
returns-in-None-clause-reached c = stays
