use Rattle.std.proofs.Common.{ap, ◌∙◌, arith, not}
use Rattle.row_index.proofs.Walks.{no_such_result, later_result, outside_result, seen_result}
use Rattle.row_index.proofs.visibility.Walk.sees_result_of.Goals as goal

pub returns-then-index-len : goal.returns-then-index-len
returns-then-index-len c =
    no_such_result c.args.self.now.rows.now c.args.at c.args.place c.args.owner c.args.index c.index-self-place.result c.requires.walk.distinct c.requires.within c.requires.owner
    (omega (arith, c.if-index-len.true, c.len.ensures))

pub returns-then-place-at : goal.returns-then-place-at
returns-then-place-at c =
    later_result c.args.self.now.rows.now c.args.at c.args.place c.args.owner c.args.index c.index-self-place.result c.requires.walk.distinct c.requires.within c.requires.owner
    c.if-place-at.true

pub returns-then-not-is_enclosed : goal.returns-then-not-is_enclosed
returns-then-not-is_enclosed c =
    outside_result c.args.self.now.rows.now c.args.at c.args.place c.args.owner c.args.index c.index-self-place.result c.requires.walk.distinct c.requires.within c.requires.owner
    c.if-not-is_enclosed.ensures

pub returns : goal.returns
returns c =
    ap not c.is_contained.ensures
    ∙ seen_result c.args.self.now.rows.now c.args.at c.args.place c.args.owner c.args.index c.index-self-place.result c.requires.walk.distinct c.requires.within c.requires.owner
    (omega (arith, c.if-index-len.false, c.len.ensures)) c.if-place-at.false c.if-not-is_enclosed.ensures
