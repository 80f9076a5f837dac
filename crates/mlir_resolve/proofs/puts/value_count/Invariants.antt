use Rattle.std.proofs.Common.{◌≡◌, ◌+◌, ◌*◌, ◌≤◌, drop}
use Rattle.std.specs.Prelude.{sum_by}
use Rattle.mlir_parse.specs.declared.syn.SynResult.{SynResult}
use Rattle.mlir_resolve.proofs.puts.value_count.Given as goal

abbrev pub invariant-loop-r : goal.invariant-loop-r
invariant-loop-r l =
    (l.count + sum_by (λ (r : SynResult). r.count) (drop l.r-index l.results) ≡ sum_by (λ (r : SynResult). r.count) l.results)
    × (l.count ≤ 65535 * l.r-index)
