use Rattle.std.proofs.Common.{sym, ◌∙◌}
use Rattle.std.specs.Prelude.{◌&&◌}
use Rattle.std.specs.List.{list_any}
use Rattle.mlir_tree.specs.Module.{home_eq}
use Rattle.row_index.specs.Walking.{around_place}
use Rattle.row_index.proofs.Walks.{sees_argument}
use Rattle.row_index.proofs.visibility.Walk.sees_argument_of.Goals as goal

pub returns-then-has_argument : goal.returns-then-has_argument
returns-then-has_argument c =
    let rows = c.args.self.now.rows.now in
    c.is_inside.ensures
    ∙ ((λ i. c.if-has_argument.ensures i && list_any (home_eq c.args.home) (around_place rows c.args.at))
    ∙ sym (sees_argument rows c.args.at c.args.place c.args.home.row c.args.home.region c.args.index _ c.requires.walk.distinct c.requires.within c.requires.owner))

pub returns-else-has_argument : goal.returns-else-has_argument
returns-else-has_argument c =
    let rows = c.args.self.now.rows.now in
    c.if-has_argument.false
    ∙ ((λ i. c.if-has_argument.ensures i && list_any (home_eq c.args.home) (around_place rows c.args.at))
    ∙ sym (sees_argument rows c.args.at c.args.place c.args.home.row c.args.home.region c.args.index _ c.requires.walk.distinct c.requires.within c.requires.owner))
