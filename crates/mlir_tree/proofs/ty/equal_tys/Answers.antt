use Rattle.std.proofs.Common.{◌∙◌, ap}
use Rattle.std.specs.Ordering.{is_eq}
use Rattle.mlir_tree.specs.Codes.{tys_equal}
use Rattle.mlir_tree.proofs.ty.equal_tys.Goals as goal

pub returns : goal.returns
returns c = tys_equal c.args.a.now c.args.b.now c.is_eq.result (c.is_eq.ensures ∙ ap is_eq c.cmp_tys.ensures)
