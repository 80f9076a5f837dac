use Rattle.std.proofs.Common.{◌≡◌, ◌≤◌, take}
use Rattle.mlir_print.specs.Numbering.{with_results, arguments_in}
use Rattle.mlir_print.proofs.Counting.{AreKept}
use Rattle.mlir_print.proofs.numbering.number.Given as goal

-- the rows so far are counted and kept
abbrev pub invariant-loop-place : goal.invariant-loop-place
invariant-loop-place l =
    (l.result ≡ with_results (take l.place l.rows)) × (l.result ≤ l.place) × (l.argument ≡ arguments_in (take l.place l.rows))
    × AreKept l.rows l.place l.found.items
