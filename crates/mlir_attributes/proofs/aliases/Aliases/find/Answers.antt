use Rattle.std.proofs.Common.{ap, ◌∙◌}
use Rattle.mlir_attributes.specs.Aliases.{find}
use Rattle.mlir_attributes.proofs.Defined.{found}
use Rattle.mlir_attributes.proofs.aliases.Aliases.find.Goals as goal

pub returns : goal.returns
returns c = c.get.ensures.value ∙ (found c.args.name.now c.self.inside.by_name.entries c.self.invariant ∙ ap (find c.args.name.now) c.self.view_is)
