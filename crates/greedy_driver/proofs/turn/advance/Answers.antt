use Rattle.std.proofs.Common.{map, sym, ap, subst}
use Rattle.mlir_tree.specs.WellFormed.{IsWellFormed}
use Rattle.row_matcher.specs.View.{thing_of}
use Rattle.pdll_patterns.specs.View.{pattern_of, action_of}
use Rattle.rewrite_model.specs.Step.{step}
use Rattle.greedy_driver.proofs.Turns.{stopped}
use Rattle.greedy_driver.proofs.turn.advance.Goals as goal

pub returns-in-Err-clause-stops : goal.returns-in-Err-clause-stops
returns-in-Err-clause-stops c s e =
    stopped (step (pattern_of c.args.pattern.now) (map thing_of c.args.given.now) c.args.hit.row c.args.rows.now) c.in-Err.stop s e
    (c.in-Err.ensures.rows (pattern_of c.args.pattern.now) (ap (map action_of) (sym c.as_slice-actions.ensures)))

pub returns-clause-well_formed : goal.returns-clause-well_formed
returns-clause-well_formed c =
    subst IsWellFormed (sym c.replace.ensures.after)
    (c.steps_keep_well_formed.ensures (pattern_of c.args.pattern.now) (map thing_of c.args.given.now) c.args.hit.row c.args.rows.now c.in-Ok.taken.0 c.requires
    (c.in-Ok.ensures.rows (pattern_of c.args.pattern.now) (ap (map action_of) (sym c.as_slice-actions.ensures))))
