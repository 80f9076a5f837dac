use Rattle.std.proofs.Common.{◌≡◌, drop}
use Rattle.mlir_resolve.specs.Walk.{put_arguments}
use Rattle.mlir_resolve.proofs.puts.put_args.Given as goal

abbrev pub invariant-loop-k : goal.invariant-loop-k
invariant-loop-k l = put_arguments l.d l.g 0 l.args l.fn.scope ≡ put_arguments l.d l.g l.k (drop l.k l.args) l.scope
