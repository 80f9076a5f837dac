use Rattle.std.proofs.Common.{◌∙◌, ap}
use Rattle.std.specs.Ordering.{is_eq}
use Rattle.mlir_tree.specs.Codes.{entries_equal}
use Rattle.mlir_tree.proofs.attr.equal_dicts.Goals as goal

pub returns : goal.returns
returns c = entries_equal c.args.a.now c.args.b.now c.is_eq.result (c.is_eq.ensures ∙ ap is_eq c.cmp_dicts.ensures)
