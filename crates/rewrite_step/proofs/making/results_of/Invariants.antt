use Rattle.std.proofs.Common.{◌≡◌, map}
use Rattle.std.specs.List.{range_with_len}
use Rattle.mlir_tree.specs.declared.value.Val.TheVariants.{Res}
use Rattle.rewrite_step.proofs.making.results_of.Given as goal

abbrev pub invariant-loop-k : goal.invariant-loop-k
invariant-loop-k l = l.found ≡ map (λ n. Res l.row.id n) (range_with_len 0 l.k)
