use Rattle.row_index.proofs.Walks.{no_home, home_there, home_before, outer_home}
use Rattle.row_index.proofs.visibility.Walk.outer.Goals as goal

pub returns-in_default-clause-none : goal.returns-in_default-clause-none
returns-in_default-clause-none c = λ none. no_home c.args.self.now.rows.now c.args.at _ c.requires.within c.in_default.is

pub returns-in_default-place_of-clause-none : goal.returns-in_default-place_of-clause-none
returns-in_default-place_of-clause-none c =
    λ none. absurd (home_there c.args.self.now.rows.now c.args.at c.in-Some.home _ c.requires.walk.nested c.requires.within c.in-Some.is (c.place_of.ensures.none c.in_default-place_of.is))

pub returns-clause-some : goal.returns-clause-some
returns-clause-some c =
    let rows = c.args.self.now.rows.now in
    let found = c.in-Some-place_of.ensures.found in
    let before = home_before rows c.args.at c.in-Some-place_of.place c.in-Some.home _ c.requires.walk.distinct c.requires.walk.nested c.requires.within c.in-Some.is found in
    (before, outer_home rows c.args.at c.in-Some-place_of.place c.in-Some.home _ c.requires.walk.distinct c.requires.within c.in-Some.is found before)
