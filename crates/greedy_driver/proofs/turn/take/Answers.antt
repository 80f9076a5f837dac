use Rattle.std.proofs.Common.{◌≡◌, map, Some, Ok, Err, refl, sym, ap, subst, ◌∙◌, arith}
use Rattle.rewrite_step.specs.View.{stop_of}
use Rattle.rewrite_model.specs.Step.{step}
use Rattle.rewrite_model.specs.Running.{Runs, ended, stays}
use Rattle.row_matcher.specs.View.{thing_of}
use Rattle.pdll_patterns.specs.View.{pattern_of}
use Rattle.greedy_driver.proofs.Best.{at_place, inside}
use Rattle.greedy_driver.proofs.Turns.{bounded_here, same_rows, goes, reached, stops}
use Rattle.greedy_driver.proofs.turn.take.Goals as goal

pub returns-in_err-number_of-clause-reached : goal.returns-in_err-number_of-clause-reached
returns-in_err-number_of-clause-reached c = stays

pub returns-then-left-eq0-clause-turn : goal.returns-then-left-eq0-clause-turn
returns-then-left-eq0-clause-turn c =
    (refl, bounded_here c.args.order (map pattern_of c.args.patterns.now) c.args.rows.now c.args.left c.in_ok-number_of.field-0 c.args.row c.args.found.now c.if-left-eq0.true c.in_ok-number_of.ensures c.requires.found)

pub returns-then-left-eq0-clause-reached : goal.returns-then-left-eq0-clause-reached
returns-then-left-eq0-clause-reached c = stays

pub bounds-patterns-found : goal.bounds-patterns-found
bounds-patterns-found c = inside c.args.patterns.now c.args.found.now.at c.requires.found.0 c.requires.found.2.declared

pub returns-in-Ok-clause-turn : goal.returns-in-Ok-clause-turn
returns-in-Ok-clause-turn c =
    let q = c.index-patterns-found.result in
    let f = c.args.found.now in (
      omega (arith, c.if-left-eq0.false),
      (
        goes c.args.order (map pattern_of c.args.patterns.now) c.args.rows.now c.advance.new.rows c.in_ok-number_of.field-0 c.args.row (pattern_of q) f c.in-Ok.told
            c.in_ok-number_of.ensures
            (at_place c.args.patterns.now f.at q (inside c.args.patterns.now f.at c.requires.found.0 c.requires.found.2.declared) ∙ ap (λ x. Some (pattern_of x)) (sym c.index-patterns-found.is))
            c.requires.found
            (subst (λ g. step (pattern_of q) (map thing_of g) c.args.row c.args.rows.now ≡ Ok c.advance.new.rows) c.as_slice.ensures c.in-Ok.ensures.steps)
            c.in-Ok.ensures.told,
        c.in-Ok.ensures.index,
      ),
    )

pub returns-in-Ok-clause-reached : goal.returns-in-Ok-clause-reached
returns-in-Ok-clause-reached c =
    let q = c.index-patterns-found.result in
    let f = c.args.found.now in
    reached c.args.order (map pattern_of c.args.patterns.now) c.args.left c.args.rows.now c.advance.new.rows c.in-Ok.told (omega (arith, c.if-left-eq0.false))
    (goes c.args.order (map pattern_of c.args.patterns.now) c.args.rows.now c.advance.new.rows c.in_ok-number_of.field-0 c.args.row (pattern_of q) f c.in-Ok.told
    c.in_ok-number_of.ensures
    (at_place c.args.patterns.now f.at q (inside c.args.patterns.now f.at c.requires.found.0 c.requires.found.2.declared) ∙ ap (λ x. Some (pattern_of x)) (sym c.index-patterns-found.is))
    c.requires.found
    (subst (λ g. step (pattern_of q) (map thing_of g) c.args.row c.args.rows.now ≡ Ok c.advance.new.rows) c.as_slice.ensures c.in-Ok.ensures.steps)
    c.in-Ok.ensures.told)

pub returns-in-Err-Fault-clause-turn : goal.returns-in-Err-Fault-clause-turn
returns-in-Err-Fault-clause-turn c =
    let q = c.index-patterns-found.result in
    let f = c.args.found.now in (
      c.in-Err-Fault.ensures.stays,
      subst (λ e. Runs c.args.order (map pattern_of c.args.patterns.now) c.args.left c.args.rows.now (ended e c.args.rows.now)) (sym c.ending_by.ensures)
          (stops c.args.order (map pattern_of c.args.patterns.now) c.args.rows.now c.args.left c.in_ok-number_of.field-0 c.args.row (pattern_of q) f (stop_of c.in-Err-Fault.stop)
          (omega (arith, c.if-left-eq0.false))
          c.in_ok-number_of.ensures
          (at_place c.args.patterns.now f.at q (inside c.args.patterns.now f.at c.requires.found.0 c.requires.found.2.declared) ∙ ap (λ x. Some (pattern_of x)) (sym c.index-patterns-found.is))
          c.requires.found
          (subst (λ g. step (pattern_of q) (map thing_of g) c.args.row c.args.rows.now ≡ Err (stop_of c.in-Err-Fault.stop)) c.as_slice.ensures (c.in-Err-Fault.ensures.stops c.in-Err-Fault.stop (ap Err c.in-Err-Fault.field-0-is)))),
    )

pub returns-in-Err-Fault-clause-reached : goal.returns-in-Err-Fault-clause-reached
returns-in-Err-Fault-clause-reached c = same_rows c.args.order (map pattern_of c.args.patterns.now) c.args.left c.args.rows.now c.advance.new.rows c.in-Err-Fault.ensures.stays

pub returns-in-Err-NoMemory-clause-reached : goal.returns-in-Err-NoMemory-clause-reached
returns-in-Err-NoMemory-clause-reached c = same_rows c.args.order (map pattern_of c.args.patterns.now) c.args.left c.args.rows.now c.advance.new.rows c.in-Err-NoMemory.ensures.stays
