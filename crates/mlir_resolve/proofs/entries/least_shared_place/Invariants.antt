use Rattle.std.proofs.Common.{◌≡◌, ◌≤◌, ◌+◌, ◌-◌, length, drop}
use Rattle.mlir_tree.specs.Range.{AreRising}
use Rattle.mlir_parse.specs.Limits.{syn_names}
use Rattle.mlir_resolve.specs.Resolving.{least_shared}
use Rattle.mlir_resolve.proofs.Shared.{least_of}
use Rattle.mlir_resolve.proofs.entries.least_shared_place.Given as goal

abbrev pub invariant-loop-i : goal.invariant-loop-i
invariant-loop-i l =
    (l.i ≤ length l.props) × (l.j ≤ length l.attrs)
    × AreRising (syn_names (drop l.i l.props))
    × AreRising (syn_names (drop l.j l.attrs))
    × (least_of l.least (least_shared (drop l.i l.props) (drop l.j l.attrs)) ≡ least_shared l.props l.attrs)

abbrev pub decreases-loop-i : goal.decreases-loop-i
decreases-loop-i l = (length l.props - l.i) + (length l.attrs - l.j)
