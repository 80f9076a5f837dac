use Rattle.std.proofs.Common.{◌∷◌, ◌++◌, [], ap, ◌∙◌, map}
use Rattle.pdll_types.specs.Signatures.{signature_of}
use Rattle.pdll_types.proofs.Maps.{looked_signature, declared_last, declared_of}
use Rattle.pdll_types.proofs.table.Table.declare.Goals as goal

pub returns : goal.returns
returns c =
    let q = c.args.name in
    let es = c.self.inside.by_name.entries in
    let absent = looked_signature q.now es ∙ (ap (λ t. signature_of t q.now) c.self.view_is ∙ c.requires) in
    ap (map declared_of) c.in_ok-insert.ensures.entries
    ∙ (declared_last q c.args.signature es absent ∙ ap (λ t. t ++ declared_of (q, c.args.signature) ∷ []) c.self.view_is)
