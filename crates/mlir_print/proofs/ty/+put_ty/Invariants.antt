use Rattle.std.proofs.Common.{Bool, ◌+◌, ◌*◌, drop}
use Rattle.rw_outside.specs.Puts.{SinkState}
use Rattle.mlir_tree.specs.Tree.{tys}
use Rattle.mlir_tree.specs.Measure.{ty_size, tys_size}
use Rattle.mlir_print.specs.Prints.{Prints}
use Rattle.mlir_print.specs.Text.{more_tys_text}
use Rattle.mlir_print.proofs.ty.+put_ty.Given as goal

-- whatever puts the rest from here on puts all from the start
abbrev pub invariant-put_more_tys-loop-ty : goal.invariant-put_more_tys-loop-ty
invariant-put_more_tys-loop-ty g l =
    (is : Bool) (s : SinkState) → Prints l.ok is (g.S.Sink.state l.sink) s (more_tys_text (tys (drop l.ty-index l.all)))
    → Prints l.fn.ok is (g.S.Sink.state l.fn.sink) s (more_tys_text (tys l.all))

abbrev pub decreases-put_ty : goal.decreases-put_ty
decreases-put_ty g l = 4 * ty_size l.ty.now

abbrev pub decreases-put_more_tys : goal.decreases-put_more_tys
decreases-put_more_tys g l = 4 * tys_size (tys l.all.now)

abbrev pub decreases-put_tys : goal.decreases-put_tys
decreases-put_tys g l = 4 * tys_size (tys l.all.now) + 1

abbrev pub decreases-put_results : goal.decreases-put_results
decreases-put_results g l = 4 * tys_size (tys l.all.now) + 2
