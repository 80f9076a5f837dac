use Rattle.std.proofs.Common.{◌≡◌, ◌<◌, length}
use Rattle.std.specs.Prelude.{◌==◌}
use Rattle.std.specs.List.{list_any}
use Rattle.row_index.specs.Walking.{around_place}
use Rattle.row_index.proofs.visibility.Walk.is_contained.Given as goal

abbrev pub invariant-loop-outer : goal.invariant-loop-outer
invariant-loop-outer l =
    (l.from < length l.self.rows.now) × (list_any (λ h. h.row == l.owner) (around_place l.self.rows.now l.from) ≡ list_any (λ h. h.row == l.owner) (around_place l.self.rows.now l.at))

abbrev pub decreases-loop-outer : goal.decreases-loop-outer
decreases-loop-outer l = l.from
