use Rattle.std.proofs.Common.{rules, sym, ◌∙◌}
use Rattle.row_index.proofs.BadUses.{begun, found, passed, ended, fits_place}
use Rattle.row_index.proofs.visibility.first_bad_use.Goals as goal

pub loop-at-init : goal.loop-at-init
loop-at-init c = begun c.args.walk.now.rows.now

pub overflow_cast-result : goal.overflow_cast-result
overflow_cast-result c =
    let fits = fits_place c.args.walk.now.rows.now c.loop-at.at c.in-Some.place c.index-walk-at.result c.loop-at-test.true c.in-Some.ensures.within c.requires.sizes in
    search (fits, rules)

pub returns-in-Some : goal.returns-in-Some
returns-in-Some c =
    found c.args.walk.now.rows.now c.loop-at.at c.in-Some.place c.index-walk-at.result c.loop-at-test.true (sym c.in-Some.ensures.place) c.loop-at.invariant

pub loop-at-preserved : goal.loop-at-preserved
loop-at-preserved c = passed c.args.walk.now.rows.now c.loop-at.at c.loop-at-test.true (sym c.bad_place.ensures.place ∙ c.in_default.is) c.loop-at.invariant

pub returns : goal.returns
returns c = ended c.args.walk.now.rows.now c.loop-at.at c.loop-at-test.false c.loop-at.invariant
