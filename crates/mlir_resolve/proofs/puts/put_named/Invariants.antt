use Rattle.std.proofs.Common.{◌≡◌, ◌+◌, length, drop}
use Rattle.std.specs.Prelude.{sum_by}
use Rattle.mlir_parse.specs.declared.syn.SynResult.{SynResult}
use Rattle.mlir_resolve.specs.Walk.{put_names}
use Rattle.mlir_resolve.proofs.puts.put_named.Given as goal

abbrev pub invariant-loop-r : goal.invariant-loop-r
invariant-loop-r l =
    (put_names l.d 0 l.results l.types l.fn.scope ≡ put_names l.d l.at (drop l.r-index l.results) l.rest l.scope)
    × (l.at + length l.rest ≡ length l.types)
    × (sum_by (λ (r : SynResult). r.count) (drop l.r-index l.results) ≡ length l.rest)
