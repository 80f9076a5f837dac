use Rattle.std.proofs.Common.{◌≡◌, ◌<◌, length}
use Rattle.std.specs.List.{list_any}
use Rattle.mlir_tree.specs.Module.{home_eq}
use Rattle.row_index.specs.Walking.{around_place}
use Rattle.row_index.proofs.visibility.Walk.is_inside.Given as goal

abbrev pub invariant-loop-outer : goal.invariant-loop-outer
invariant-loop-outer l =
    (l.from < length l.self.rows.now) × (list_any (home_eq l.home) (around_place l.self.rows.now l.from) ≡ list_any (home_eq l.home) (around_place l.self.rows.now l.at))

abbrev pub decreases-loop-outer : goal.decreases-loop-outer
decreases-loop-outer l = l.from
