use Rattle.std.proofs.Common.{◌∙◌, ap}
use Rattle.std.specs.Ordering.{is_eq}
use Rattle.mlir_tree.specs.Codes.{attr_equal}
use Rattle.mlir_tree.proofs.attr.Attr.equal.Goals as goal

pub returns : goal.returns
returns c = attr_equal c.args.self.now c.args.other.now c.is_eq.result (c.is_eq.ensures ∙ ap is_eq c.cmp.ensures)
