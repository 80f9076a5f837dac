use Rattle.std.proofs.Common.{◌∙◌, ap}
use Rattle.std.specs.Ordering.{is_eq}
use Rattle.mlir_tree.specs.Codes.{ty_equal}
use Rattle.mlir_tree.proofs.ty.Ty.equal.Goals as goal

pub returns : goal.returns
returns c = ty_equal c.args.self.now c.args.other.now c.is_eq.result (c.is_eq.ensures ∙ ap is_eq c.cmp.ensures)
