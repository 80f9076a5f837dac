use Rattle.std.proofs.Common.{ap, ◌∙◌}
use Rattle.std.specs.Option.{option_map}
use Rattle.mlir_resolve.specs.Scopes.{find_name, named}
use Rattle.mlir_resolve.proofs.Scopes.{find_entries}
use Rattle.mlir_resolve.proofs.scope.Scope.find.Goals as goal

pub returns : goal.returns
returns c =
    ap (option_map (named c.args.name.now)) (c.copied.ensures ∙ c.get.ensures.value)
    ∙ (find_entries c.args.name.now c.self.inside.names.entries ∙ ap (find_name c.args.name.now) c.self.view_is)
