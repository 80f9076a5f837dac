use Rattle.std.proofs.Common.{ap, ◌∙◌}
use Rattle.pdll_types.specs.Signatures.{signature_of}
use Rattle.pdll_types.proofs.Maps.{looked_signature}
use Rattle.pdll_types.proofs.table.Table.find.Goals as goal

pub returns : goal.returns
returns c =
    c.get.ensures.value ∙ (looked_signature c.args.name.now c.self.inside.by_name.entries ∙ ap (λ t. signature_of t c.args.name.now) c.self.view_is)
